use Rattle.std.proofs.Common.{length, ◌-◌, ℕ, ◌≤◌, ◌<◌, ◌≢◌, slice_index}
use Rattle.sexpr_text.proofs.piece.line_end.Given as goal

abbrev pub invariant-loop-end : goal.invariant-loop-end
invariant-loop-end l = record {
  after : l.at < l.end;
  within : l.end ≤ length l.text;
  before : (k : ℕ) → l.at ≤ k → k < l.end → slice_index l.text k ≢ 10;
}

abbrev pub decreases-loop-end : goal.decreases-loop-end
decreases-loop-end l = length l.text - l.end
