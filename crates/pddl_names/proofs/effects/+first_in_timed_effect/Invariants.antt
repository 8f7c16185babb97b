use Rattle.std.proofs.Common.{◌≡◌, take}
use Rattle.std.specs.List.{flat_map}
use Rattle.pddl_names.specs.Offences.{least}
use Rattle.pddl_names.specs.Scopes.{variables_of}
use Rattle.pddl_names.specs.Walks.{timed_effect_offences}
use Rattle.pddl_names.proofs.effects.+first_in_timed_effect.Given as goal

abbrev pub decreases-first_in_timed_effect : goal.decreases-first_in_timed_effect
decreases-first_in_timed_effect l = goal.size-first_in_timed_effect l

abbrev pub invariant-loop-part : goal.invariant-loop-part
invariant-loop-part l = l.found ≡ least (flat_map (timed_effect_offences l.phase l.tables (variables_of l.scope)) (take l.part-index l.part-items))
