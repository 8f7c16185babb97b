use Rattle.std.proofs.Common.{◌≡◌, min, map, take}
use Rattle.ground_world.specs.Counts.{timed_count, together}
use Rattle.ground_world.specs.Shown.{world_of}
use Rattle.ground_world.proofs.counts.+timed_counting.Given as goal

abbrev pub invariant-timed_counts-loop-condition : goal.invariant-timed_counts-loop-condition
invariant-timed_counts-loop-condition l = l.sum ≡ min 65537 (together (map (timed_count (world_of l.tables)) (take l.condition-index l.conditions)))
