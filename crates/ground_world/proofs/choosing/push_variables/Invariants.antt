use Rattle.std.proofs.Common.{◌≡◌, drop, ◌++◌}
use Rattle.ground_world.specs.World.{variable_names, columns}
use Rattle.ground_world.specs.Shown.{names_of, columns_of, world_of}
use Rattle.ground_world.proofs.choosing.push_variables.Given as goal

abbrev pub invariant-loop-group : goal.invariant-loop-group
invariant-loop-group l = (names_of l.out ++ variable_names (drop l.group-index l.groups) ≡ names_of l.fn.out ++ variable_names l.groups)
    × (columns_of l.out ++ columns (world_of l.tables) (drop l.group-index l.groups) ≡ columns_of l.fn.out ++ columns (world_of l.tables) l.groups)
