use Rattle.std.proofs.Common.{◌≡◌, ◌++◌, take, ◌+◌, ◌*◌, map}
use Rattle.std.specs.List.{flat_map}
use Rattle.ground_world.specs.Shown.{env_of, world_of, parts_of}
use Rattle.grounder.specs.ShownQuantified.{envs_of}
use Rattle.grounder.specs.Terms.{goal_parts}
use Rattle.ground_world.proofs.Heights.{greatest}
use Rattle.grounder.proofs.TreeHeights.{goal_height}
use Rattle.grounder.proofs.goals.+goals.Given as goal

abbrev pub invariant-push_all_parts-loop-tree : goal.invariant-push_all_parts-loop-tree
invariant-push_all_parts-loop-tree l = parts_of l.out ≡ parts_of l.fn.out ++ flat_map (goal_parts (world_of l.tables) (env_of l.env)) (take l.tree-index l.trees)

abbrev pub invariant-push_instance_parts-loop-number : goal.invariant-push_instance_parts-loop-number
invariant-push_instance_parts-loop-number l =
    parts_of l.out ≡ parts_of l.fn.out ++ flat_map (λ e. goal_parts (world_of l.tables) e l.body) (take l.number (envs_of l.quantified (env_of l.env)))

abbrev pub decreases-push_goal_parts : goal.decreases-push_goal_parts
decreases-push_goal_parts l = 2 * goal_height l.tree.now

abbrev pub decreases-push_all_parts : goal.decreases-push_all_parts
decreases-push_all_parts l = 2 * greatest (map goal_height l.trees.now) + 1

abbrev pub decreases-push_instance_parts : goal.decreases-push_instance_parts
decreases-push_instance_parts l = 2 * goal_height l.body.now + 1
