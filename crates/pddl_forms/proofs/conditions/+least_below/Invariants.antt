use Rattle.std.proofs.Common.{◌≡◌, take, None}
use Rattle.std.specs.List.{flat_map}
use Rattle.pddl_forms.specs.Offences.{least_with}
use Rattle.pddl_forms.specs.Conditions.{condition_below}
use Rattle.pddl_forms.proofs.conditions.+least_below.Given as goal

abbrev pub decreases-least_below : goal.decreases-least_below
decreases-least_below l = goal.size-least_below l

abbrev pub invariant-loop-part : goal.invariant-loop-part
invariant-loop-part l = l.found ≡ least_with l.fn.found (flat_map (condition_below l.functions None) (take l.part-index l.part-items))
