use Rattle.std.proofs.Common.{◌≡◌, take}
use Rattle.timed_meaning.specs.Owned.{placed_lines}
use Rattle.timed_meaning.proofs.placing.place_lines.Given as goal

abbrev pub invariant-loop-i : goal.invariant-loop-i
invariant-loop-i l = l.out.items ≡ placed_lines (take l.i l.lines)
