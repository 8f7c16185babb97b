use Rattle.std.proofs.Common.{◌++◌}
use Rattle.pddl_names.specs.Calls.{types_offences, doubles, names_of}
use Rattle.pddl_names.proofs.Least.{least-named}
use Rattle.pddl_names.proofs.domains.first_in_list.Goals as goal

pub returns-in_ok-first_named_in_list-in-Names : goal.returns-in_ok-first_named_in_list-in-Names
returns-in_ok-first_named_in_list-in-Names c =
    least-named _ (types_offences c.args.tables.now c.args.groups.now ++ doubles c.args.before.now (names_of c.args.groups.now)) _ c.in-Names.is c.in_ok-first_named_in_list-in-Names.ensures
