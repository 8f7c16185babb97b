use Rattle.std.proofs.Common.{◌≡◌, length}
use Rattle.std.specs.Prelude.{slice_get}
use Rattle.pddl_forms.specs.Limits.{names_in}
use Rattle.pddl_forms.proofs.limits.name_at.Given as goal

abbrev pub decreases-loop-group : goal.decreases-loop-group
decreases-loop-group l = length l.left

abbrev pub invariant-loop-group : goal.invariant-loop-group
invariant-loop-group l = slice_get (names_in l.left) l.place ≡ slice_get (names_in l.fn.groups) l.fn.place
