use Rattle.std.proofs.Common.{◌≡◌, ◌-◌, length}
use Rattle.pddl_forms.specs.Limits.{names_in}
use Rattle.pddl_forms.proofs.limits.room_beside.Given as goal

abbrev pub decreases-loop-group : goal.decreases-loop-group
decreases-loop-group l = length l.left

abbrev pub invariant-loop-group : goal.invariant-loop-group
invariant-loop-group l = l.room - length (names_in l.left) ≡ l.fn.most - length (names_in l.fn.groups)
