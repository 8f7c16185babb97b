use Rattle.std.proofs.Common.{◌≡◌, take}
use Rattle.std.specs.List.{flat_map}
use Rattle.pddl_names.specs.Offences.{least}
use Rattle.pddl_names.specs.Scopes.{variables_of}
use Rattle.pddl_names.specs.Calls.{term_offences}
use Rattle.pddl_names.proofs.calls.first_in_terms.Given as goal

abbrev pub invariant-loop-term : goal.invariant-loop-term
invariant-loop-term l = l.found ≡ least (flat_map (term_offences l.tables (variables_of l.scope)) (take l.term-index l.terms))
