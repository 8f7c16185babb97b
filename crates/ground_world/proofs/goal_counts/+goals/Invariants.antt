use Rattle.std.proofs.Common.{◌≡◌, map, take}
use Rattle.ground_world.specs.Counts.{hard_count, somes}
use Rattle.ground_world.specs.Counting.{capped}
use Rattle.ground_world.specs.Shown.{world_of}
use Rattle.ground_world.proofs.goal_counts.+goals.Given as goal

abbrev pub invariant-hard_counts-loop-goal : goal.invariant-hard_counts-loop-goal
invariant-hard_counts-loop-goal l = l.sum ≡ capped (somes (map (hard_count (world_of l.tables)) (take l.goal-index l.goals)))
