use Rattle.std.proofs.Common.{◌≡◌, take}
use Rattle.std.specs.List.{flat_map}
use Rattle.pddl_forms.specs.Offences.{least_with}
use Rattle.pddl_forms.specs.Conditions.{duration_offences}
use Rattle.pddl_forms.proofs.conditions.+least_of_duration.Given as goal

abbrev pub decreases-least_of_duration : goal.decreases-least_of_duration
decreases-least_of_duration l = goal.size-least_of_duration l

abbrev pub invariant-loop-part : goal.invariant-loop-part
invariant-loop-part l = l.found ≡ least_with l.fn.found (flat_map (duration_offences l.functions) (take l.part-index l.part-items))
