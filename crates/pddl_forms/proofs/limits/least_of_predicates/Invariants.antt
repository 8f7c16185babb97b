use Rattle.std.proofs.Common.{◌≡◌, take}
use Rattle.std.specs.List.{flat_map}
use Rattle.pddl_forms.specs.Offences.{least_with}
use Rattle.pddl_forms.specs.Limits.{predicate_limits}
use Rattle.pddl_forms.proofs.limits.least_of_predicates.Given as goal

abbrev pub invariant-loop-predicate : goal.invariant-loop-predicate
invariant-loop-predicate l = l.found ≡ least_with l.fn.found (flat_map predicate_limits (take l.predicate-index l.predicates))
