use Rattle.std.proofs.Common.{[], map, take}
use Rattle.ground_world.specs.Shown.{world_of}
use Rattle.grounder.specs.ShownQuantified.{envs_of}
use Rattle.grounder.specs.ShownUnits.{AreLeast}
use Rattle.grounder.specs.Terms.{preference_parts}
use Rattle.grounder.proofs.UnitSteps.{instance_unit}
use Rattle.grounder.proofs.units.instance_faults.Given as goal

abbrev pub invariant-loop-number : goal.invariant-loop-number
invariant-loop-number l =
    AreLeast (world_of l.tables) (map (instance_unit (world_of l.tables) (preference_parts (world_of l.tables) l.leaf.body.now)) (take l.number (envs_of l.quantified []))) l.found
