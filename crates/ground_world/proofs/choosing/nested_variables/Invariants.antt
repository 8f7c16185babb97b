use Rattle.std.proofs.Common.{◌≡◌, take}
use Rattle.std.specs.List.{flat_map}
use Rattle.ground_world.specs.World.{variable_names, columns}
use Rattle.ground_world.specs.Shown.{names_of, columns_of, world_of}
use Rattle.ground_world.proofs.choosing.nested_variables.Given as goal

abbrev pub invariant-loop-groups : goal.invariant-loop-groups
invariant-loop-groups l = (names_of l.out ≡ flat_map (λ g. variable_names g.now) (take l.groups-index l.around))
    × (columns_of l.out ≡ flat_map (λ g. columns (world_of l.tables) g.now) (take l.groups-index l.around))
