use Rattle.std.proofs.Common.{length, ◌-◌, ◌≤◌}
use Rattle.sexpr_text.specs.Scan.{IsClear}
use Rattle.sexpr_text.proofs.Heights.{StaysTo}
use Rattle.sexpr_text.proofs.scan.all_close.Given as goal

abbrev pub invariant-loop-at : goal.invariant-loop-at
invariant-loop-at l = record {
  within : l.at ≤ length l.text;
  clear : IsClear l.text l.at;
  stays : StaysTo l.text l.fn.from l.at l.depth;
}

abbrev pub decreases-loop-at : goal.decreases-loop-at
decreases-loop-at l = length l.text - l.at
