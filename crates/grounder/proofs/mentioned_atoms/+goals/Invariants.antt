use Rattle.std.proofs.Common.{◌≡◌, take, ◌+◌, ◌*◌, map}
use Rattle.std.specs.List.{flat_map}
use Rattle.pddl_names.specs.Declarations.{with_new}
use Rattle.ground_world.specs.Shown.{env_of, world_of}
use Rattle.grounder.specs.ShownQuantified.{envs_of}
use Rattle.grounder.specs.Terms.{goal_atoms}
use Rattle.ground_world.proofs.Heights.{greatest}
use Rattle.grounder.proofs.TreeHeights.{goal_height}
use Rattle.grounder.proofs.mentioned_atoms.+goals.Given as goal

abbrev pub invariant-add_all_goal_atoms-loop-tree : goal.invariant-add_all_goal_atoms-loop-tree
invariant-add_all_goal_atoms-loop-tree l = l.atoms ≡ with_new l.fn.atoms (flat_map (goal_atoms (world_of l.tables) (env_of l.env)) (take l.tree-index l.trees))

abbrev pub invariant-add_goal_instances-loop-number : goal.invariant-add_goal_instances-loop-number
invariant-add_goal_instances-loop-number l =
    l.atoms ≡ with_new l.fn.atoms (flat_map (λ e. goal_atoms (world_of l.tables) e l.body) (take l.number (envs_of l.quantified (env_of l.env))))

abbrev pub decreases-add_goal_atoms : goal.decreases-add_goal_atoms
decreases-add_goal_atoms l = 2 * goal_height l.tree.now

abbrev pub decreases-add_all_goal_atoms : goal.decreases-add_all_goal_atoms
decreases-add_all_goal_atoms l = 2 * greatest (map goal_height l.trees.now) + 1

abbrev pub decreases-add_goal_instances : goal.decreases-add_goal_instances
decreases-add_goal_instances l = 2 * goal_height l.body.now + 1
