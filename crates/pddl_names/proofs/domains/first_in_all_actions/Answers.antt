use Rattle.std.proofs.Common.{[], ◌∷◌}
use Rattle.std.specs.List.{flat_map}
use Rattle.pddl_names.specs.Calls.{doubles}
use Rattle.pddl_names.specs.Files.{action_offences}
use Rattle.pddl_names.proofs.Least.{both-named, own-unnamed}
use Rattle.pddl_names.proofs.domains.first_in_all_actions.Goals as goal

pub returns-in_ok-twice-in-Names : goal.returns-in_ok-twice-in-Names
returns-in_ok-twice-in-Names c = both-named _ (flat_map (action_offences c.args.phase c.args.tables.now) c.args.actions.now) (doubles [] (flat_map (λ a. a.name ∷ []) c.args.actions.now)) _ _ _ c.in-Names.is c.in_ok-own.ensures c.in_ok-twice-in-Names.ensures c.earlier.ensures

pub returns-in-Types : goal.returns-in-Types
returns-in-Types c = own-unnamed _ (flat_map (action_offences c.args.phase c.args.tables.now) c.args.actions.now) (doubles [] (flat_map (λ a. a.name ∷ []) c.args.actions.now)) _ c.in-Types.is c.in_ok-own.ensures
