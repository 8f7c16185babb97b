use Rattle.std.proofs.Common.{◌≡◌, take}
use Rattle.std.specs.List.{flat_map}
use Rattle.pddl_names.specs.Offences.{least}
use Rattle.pddl_names.specs.Files.{action_offences}
use Rattle.pddl_names.proofs.domains.first_in_each_action.Given as goal

abbrev pub invariant-loop-action : goal.invariant-loop-action
invariant-loop-action l = l.found ≡ least (flat_map (action_offences l.phase l.tables) (take l.action-index l.actions))
