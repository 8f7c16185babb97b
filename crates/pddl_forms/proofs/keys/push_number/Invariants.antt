use Rattle.std.proofs.Common.{◌≡◌, ◌++◌}
use Rattle.pddl_forms.specs.Keys.{number_key}
use Rattle.pddl_forms.proofs.keys.push_number.Given as goal

abbrev pub decreases-loop-left : goal.decreases-loop-left
decreases-loop-left l = l.left

abbrev pub invariant-loop-left : goal.invariant-loop-left
invariant-loop-left l = l.out.items ++ number_key l.left ≡ l.fn.out.items ++ number_key l.number
