use Rattle.std.proofs.Common.{◌≡◌, take}
use Rattle.std.specs.List.{flat_map}
use Rattle.pddl_names.specs.Offences.{least}
use Rattle.pddl_names.specs.Scopes.{variables_of}
use Rattle.pddl_names.specs.Walks.{formula_offences}
use Rattle.pddl_names.proofs.formulas.+formulas.Given as goal

abbrev pub invariant-first_in_formulas-loop-part : goal.invariant-first_in_formulas-loop-part
invariant-first_in_formulas-loop-part l = l.found ≡ least (flat_map (formula_offences l.phase l.tables (variables_of l.scope)) (take l.part-index l.parts))
