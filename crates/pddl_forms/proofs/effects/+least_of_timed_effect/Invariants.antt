use Rattle.std.proofs.Common.{◌≡◌, take}
use Rattle.std.specs.List.{flat_map}
use Rattle.pddl_forms.specs.Offences.{least_with}
use Rattle.pddl_forms.specs.Effects.{timed_effect_offences}
use Rattle.pddl_forms.proofs.effects.+least_of_timed_effect.Given as goal

abbrev pub decreases-least_of_timed_effect : goal.decreases-least_of_timed_effect
decreases-least_of_timed_effect l = goal.size-least_of_timed_effect l

abbrev pub invariant-loop-part : goal.invariant-loop-part
invariant-loop-part l = l.found ≡ least_with l.fn.found (flat_map (timed_effect_offences l.functions) (take l.part-index l.part-items))
