use Rattle.std.proofs.Common.{◌≡◌, take}
use Rattle.std.specs.List.{flat_map}
use Rattle.pddl_forms.specs.Offences.{least_with}
use Rattle.pddl_forms.specs.Goals.{soft_offences}
use Rattle.pddl_forms.proofs.goals.+least_of_soft.Given as goal

abbrev pub decreases-least_of_soft : goal.decreases-least_of_soft
decreases-least_of_soft l = goal.size-least_of_soft l

abbrev pub invariant-loop-part : goal.invariant-loop-part
invariant-loop-part l = l.found ≡ least_with l.fn.found (flat_map (soft_offences l.functions) (take l.part-index l.part-items))
