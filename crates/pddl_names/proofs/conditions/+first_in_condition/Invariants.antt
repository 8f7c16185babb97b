use Rattle.std.proofs.Common.{◌≡◌, take}
use Rattle.std.specs.List.{flat_map}
use Rattle.pddl_names.specs.Offences.{least}
use Rattle.pddl_names.specs.Scopes.{variables_of}
use Rattle.pddl_names.specs.Walks.{condition_offences}
use Rattle.pddl_names.proofs.conditions.+first_in_condition.Given as goal

abbrev pub decreases-first_in_condition : goal.decreases-first_in_condition
decreases-first_in_condition l = goal.size-first_in_condition l

abbrev pub invariant-loop-part : goal.invariant-loop-part
invariant-loop-part l = l.found ≡ least (flat_map (condition_offences l.phase l.tables (variables_of l.scope)) (take l.part-index l.part-items))
