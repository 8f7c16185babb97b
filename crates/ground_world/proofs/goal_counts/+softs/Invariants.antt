use Rattle.std.proofs.Common.{◌≡◌, min, map, take}
use Rattle.ground_world.specs.Counts.{soft_count, together}
use Rattle.ground_world.specs.Shown.{world_of}
use Rattle.ground_world.proofs.goal_counts.+softs.Given as goal

abbrev pub invariant-soft_counts-loop-body : goal.invariant-soft_counts-loop-body
invariant-soft_counts-loop-body l = l.sum ≡ min 65537 (together (map (soft_count (world_of l.tables)) (take l.body-index l.bodies)))
