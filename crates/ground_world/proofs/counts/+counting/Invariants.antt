use Rattle.std.proofs.Common.{◌≡◌, min, map, take}
use Rattle.ground_world.specs.Counts.{condition_count, together}
use Rattle.ground_world.specs.Shown.{world_of}
use Rattle.ground_world.proofs.counts.+counting.Given as goal

abbrev pub invariant-conditions_count-loop-condition : goal.invariant-conditions_count-loop-condition
invariant-conditions_count-loop-condition l = l.sum ≡ min 65537 (together (map (condition_count (world_of l.tables)) (take l.condition-index l.conditions)))
