use Rattle.std.proofs.Common.{◌≡◌, ◌++◌, map, take}
use Rattle.std.specs.List.{flat_map}
use Rattle.ground_world.specs.Conditions.{timed_condition_parts}
use Rattle.ground_world.specs.Shown.{env_of, world_of, parts_of}
use Rattle.ground_world.proofs.TimedParts.{timed_weight}
use Rattle.ground_world.proofs.action_parts.+push_timed.Given as goal

abbrev pub decreases-push_timed : goal.decreases-push_timed
decreases-push_timed l = timed_weight l.condition.now

abbrev pub invariant-loop-part : goal.invariant-loop-part
invariant-loop-part l =
    (parts_of l.parts ≡ parts_of l.fn.parts ++ map (λ p. p.part) (flat_map (timed_condition_parts (world_of l.tables) (env_of l.env)) (take l.part-index l.part-items)))
    × (l.stages ≡ l.fn.stages ++ map (λ p. p.stage) (flat_map (timed_condition_parts (world_of l.tables) (env_of l.env)) (take l.part-index l.part-items)))
