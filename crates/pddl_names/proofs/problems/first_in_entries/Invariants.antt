use Rattle.std.proofs.Common.{◌≡◌, take}
use Rattle.std.specs.List.{flat_map}
use Rattle.pddl_names.specs.Offences.{least}
use Rattle.pddl_names.specs.Files.{entry_offences}
use Rattle.pddl_names.proofs.problems.first_in_entries.Given as goal

abbrev pub invariant-loop-item : goal.invariant-loop-item
invariant-loop-item l = l.found ≡ least (flat_map (entry_offences l.phase l.tables) (take l.item-index l.entries))
