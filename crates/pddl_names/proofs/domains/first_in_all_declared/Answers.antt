use Rattle.std.proofs.Common.{[]}
use Rattle.std.specs.List.{flat_map}
use Rattle.pddl_names.specs.Calls.{doubles}
use Rattle.pddl_names.specs.Files.{declared_offences, declared_names}
use Rattle.pddl_names.proofs.Least.{both-named, own-unnamed}
use Rattle.pddl_names.proofs.domains.first_in_all_declared.Goals as goal

pub returns-in_ok-twice-in-Names : goal.returns-in_ok-twice-in-Names
returns-in_ok-twice-in-Names c = both-named _ (flat_map (declared_offences c.args.phase c.args.tables.now) c.args.list.now) (doubles [] (declared_names c.args.list.now)) _ _ _ c.in-Names.is c.in_ok-own.ensures c.in_ok-twice-in-Names.ensures c.earlier.ensures

pub returns-in-Types : goal.returns-in-Types
returns-in-Types c = own-unnamed _ (flat_map (declared_offences c.args.phase c.args.tables.now) c.args.list.now) (doubles [] (declared_names c.args.list.now)) _ c.in-Types.is c.in_ok-own.ensures
