use Rattle.std.proofs.Common.{◌≡◌, ◌+◌, ◌*◌, ◌++◌, max, map, take}
use Rattle.std.specs.List.{flat_map}
use Rattle.ground_world.specs.FirstState.{unvalued_places}
use Rattle.ground_world.specs.Expressions.{mentioned}
use Rattle.ground_world.specs.Shown.{env_of, world_of}
use Rattle.ground_world.proofs.Heights.{greatest, height}
use Rattle.ground_world.proofs.unvalued.+mentions.Given as goal

abbrev pub invariant-push_all_unvalued-loop-tree : goal.invariant-push_all_unvalued-loop-tree
invariant-push_all_unvalued-loop-tree l = l.out ≡ l.fn.out ++ unvalued_places (world_of l.tables) (flat_map (mentioned (world_of l.tables) (env_of l.env)) (take l.tree-index l.trees))

abbrev pub decreases-push_unvalued : goal.decreases-push_unvalued
decreases-push_unvalued l = 2 * height l.tree.now

abbrev pub decreases-push_all_unvalued : goal.decreases-push_all_unvalued
decreases-push_all_unvalued l = 2 * greatest (map height l.trees.now) + 1

abbrev pub decreases-push_both_unvalued : goal.decreases-push_both_unvalued
decreases-push_both_unvalued l = 2 * max (height l.left.now) (height l.right.now) + 1
