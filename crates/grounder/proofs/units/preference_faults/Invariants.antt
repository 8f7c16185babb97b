use Rattle.std.proofs.Common.{take}
use Rattle.std.specs.List.{flat_map}
use Rattle.ground_world.specs.Shown.{world_of}
use Rattle.ground_world.specs.ShownLeaves.{preferences_of}
use Rattle.grounder.specs.ShownUnits.{AreLeast}
use Rattle.grounder.specs.Units.{preference_units}
use Rattle.grounder.proofs.units.preference_faults.Given as goal

abbrev pub invariant-loop-leaf : goal.invariant-loop-leaf
invariant-loop-leaf l = AreLeast (world_of l.tables) (flat_map (preference_units (world_of l.tables)) (preferences_of (take l.leaf-index l.leaves))) l.found
