use Rattle.std.proofs.Common.{[]}
use Rattle.std.specs.List.{flat_map}
use Rattle.pddl_names.specs.Calls.{doubles}
use Rattle.pddl_names.specs.Files.{entry_offences, valued_fluent}
use Rattle.pddl_names.proofs.Least.{both-named, own-unnamed}
use Rattle.pddl_names.proofs.problems.first_in_init.Goals as goal

pub returns-in_ok-twice-in-Names : goal.returns-in_ok-twice-in-Names
returns-in_ok-twice-in-Names c = both-named _ (flat_map (entry_offences c.args.phase c.args.tables.now) c.args.entries.now) (doubles [] (flat_map valued_fluent c.args.entries.now)) _ _ _ c.in-Names.is c.first_in_entries-own.ensures c.in_ok-twice-in-Names.ensures c.earlier.ensures

pub returns-in-Types : goal.returns-in-Types
returns-in-Types c = own-unnamed _ (flat_map (entry_offences c.args.phase c.args.tables.now) c.args.entries.now) (doubles [] (flat_map valued_fluent c.args.entries.now)) _ c.in-Types.is c.first_in_entries-own.ensures
