use Rattle.std.proofs.Common.{◌≡◌, ◌++◌, map, take}
use Rattle.std.specs.List.{flat_map}
use Rattle.ground_world.specs.Bindings.{numbers, choice_at, paired}
use Rattle.ground_world.specs.Conditions.{condition_parts}
use Rattle.ground_world.specs.Shown.{env_of, world_of, names_of, columns_of, parts_of, turned}
use Rattle.ground_world.proofs.Weights.{weight}
use Rattle.ground_world.proofs.conditions.+push_parts.Given as goal

abbrev pub decreases-push_parts : goal.decreases-push_parts
decreases-push_parts l = weight l.condition.now

abbrev pub invariant-loop-part : goal.invariant-loop-part
invariant-loop-part l = parts_of l.out ≡ parts_of l.fn.out ++ map (turned l.opposite) (flat_map (condition_parts (world_of l.tables) (env_of l.env)) (take l.part-index l.part-items))

abbrev pub invariant-loop-number : goal.invariant-loop-number
invariant-loop-number l = parts_of l.out ≡ parts_of l.fn.out ++ map (turned l.opposite) (flat_map (λ k. condition_parts (world_of l.tables) (env_of l.env ++ paired (names_of l.slots) (choice_at (columns_of l.slots) k)) l.body) (numbers l.number))
