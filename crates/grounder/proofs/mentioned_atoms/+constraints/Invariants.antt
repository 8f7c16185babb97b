use Rattle.std.proofs.Common.{◌≡◌, take, ◌+◌, ◌*◌, map}
use Rattle.std.specs.List.{flat_map}
use Rattle.pddl_names.specs.Declarations.{with_new}
use Rattle.ground_world.specs.Shown.{env_of, world_of}
use Rattle.grounder.specs.ShownQuantified.{envs_of}
use Rattle.grounder.specs.Terms.{constraint_atoms}
use Rattle.ground_world.proofs.Heights.{greatest}
use Rattle.grounder.proofs.TreeHeights.{constraint_height}
use Rattle.grounder.proofs.mentioned_atoms.+constraints.Given as goal

abbrev pub invariant-add_all_constraint_atoms-loop-tree : goal.invariant-add_all_constraint_atoms-loop-tree
invariant-add_all_constraint_atoms-loop-tree l = l.atoms ≡ with_new l.fn.atoms (flat_map (constraint_atoms (world_of l.tables) (env_of l.env)) (take l.tree-index l.trees))

abbrev pub invariant-add_constraint_instances-loop-number : goal.invariant-add_constraint_instances-loop-number
invariant-add_constraint_instances-loop-number l =
    l.atoms ≡ with_new l.fn.atoms (flat_map (λ e. constraint_atoms (world_of l.tables) e l.body) (take l.number (envs_of l.quantified (env_of l.env))))

abbrev pub decreases-add_constraint_atoms : goal.decreases-add_constraint_atoms
decreases-add_constraint_atoms l = 2 * constraint_height l.tree.now

abbrev pub decreases-add_all_constraint_atoms : goal.decreases-add_all_constraint_atoms
decreases-add_all_constraint_atoms l = 2 * greatest (map constraint_height l.trees.now) + 1

abbrev pub decreases-add_constraint_instances : goal.decreases-add_constraint_instances
decreases-add_constraint_instances l = 2 * constraint_height l.body.now + 1
