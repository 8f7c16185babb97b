use Rattle.std.proofs.Common.{length, ◌-◌, ◌≡◌, ℕ, ◌≤◌, ◌<◌, false, slice_index}
use Rattle.sexpr_text.specs.Scan.{is_separator}
use Rattle.sexpr_text.proofs.piece.run_end.Given as goal

abbrev pub invariant-loop-end : goal.invariant-loop-end
invariant-loop-end l = record {
  after : l.at < l.end;
  within : l.end ≤ length l.text;
  before : (k : ℕ) → l.at ≤ k → k < l.end → is_separator (slice_index l.text k) ≡ false;
}

abbrev pub decreases-loop-end : goal.decreases-loop-end
decreases-loop-end l = length l.text - l.end
