use Rattle.std.proofs.Common.{take, []}
use Rattle.std.specs.List.{flat_map}
use Rattle.pddl_names.specs.Declarations.{with_firsts}
use Rattle.ground_world.specs.FirstState.{given_value}
use Rattle.ground_world.specs.Shown.{world_of}
use Rattle.ground_world.specs.Building.{Lists}
use Rattle.ground_world.proofs.first_state.first_values.Given as goal

abbrev pub invariant-loop-entry : goal.invariant-loop-entry
invariant-loop-entry l = Lists l.found.fluents l.found.values (with_firsts [] (flat_map (given_value (world_of l.tables)) (take l.entry-index l.entries)))
