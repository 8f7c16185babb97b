use Rattle.std.proofs.Common.{◌∙◌, sym, ap, [], ◌++◌}
use Rattle.pddl_names.specs.Offences.{least}
use Rattle.pddl_names.specs.Calls.{types_offences, doubles, names_of, in_names}
use Rattle.pddl_names.proofs.Least.{least-both}
use Rattle.pddl_names.proofs.typed_lists.first_in_variables.Goals as goal

pub returns-in_ok-twice-in-Names : goal.returns-in_ok-twice-in-Names
returns-in_ok-twice-in-Names c =
    let types = types_offences c.args.tables.now c.args.groups.now in
    let twice = doubles [] (names_of c.args.groups.now) in
    c.earlier.ensures ∙ least-both _ _ types twice c.first_in_types.ensures c.in_ok-twice-in-Names.ensures ∙ ap (λ p. least (in_names p (types ++ twice))) (sym c.in-Names.is)
