use Rattle.std.proofs.Common.{◌≡◌, take, ◌+◌, ◌*◌, map}
use Rattle.std.specs.List.{flat_map}
use Rattle.pddl_names.specs.Declarations.{with_new}
use Rattle.ground_world.specs.Shown.{env_of, world_of}
use Rattle.grounder.specs.ShownQuantified.{envs_of}
use Rattle.grounder.specs.Terms.{formula_atoms}
use Rattle.ground_world.proofs.Heights.{greatest}
use Rattle.grounder.proofs.TreeHeights.{form_height}
use Rattle.grounder.proofs.atoms.+atoms.Given as goal

abbrev pub invariant-add_all_atoms-loop-tree : goal.invariant-add_all_atoms-loop-tree
invariant-add_all_atoms-loop-tree l = l.atoms ≡ with_new l.fn.atoms (flat_map (formula_atoms (world_of l.tables) (env_of l.env)) (take l.tree-index l.trees))

abbrev pub invariant-add_instance_atoms-loop-number : goal.invariant-add_instance_atoms-loop-number
invariant-add_instance_atoms-loop-number l =
    l.atoms ≡ with_new l.fn.atoms (flat_map (λ e. formula_atoms (world_of l.tables) e l.body) (take l.number (envs_of l.quantified (env_of l.env))))

abbrev pub decreases-add_formula_atoms : goal.decreases-add_formula_atoms
decreases-add_formula_atoms l = 2 * form_height l.tree.now

abbrev pub decreases-add_all_atoms : goal.decreases-add_all_atoms
decreases-add_all_atoms l = 2 * greatest (map form_height l.trees.now) + 1

abbrev pub decreases-add_instance_atoms : goal.decreases-add_instance_atoms
decreases-add_instance_atoms l = 2 * form_height l.body.now + 1
