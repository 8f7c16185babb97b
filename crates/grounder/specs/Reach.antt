-- Private: goals and constraints whose bindings are few enough to be gone through.
use Rattle.std.specs.Prelude.{Bool, ◌&&◌, nat_le, List, Option}
use Rattle.std.specs.List.{list_all}
use Rattle.pddl_terms.specs.declared.trees.Group.{Group}
use Rattle.pddl_terms.specs.declared.trees.SoftTree.{SoftTree}
use Rattle.pddl_terms.specs.declared.trees.GoalTree.{GoalTree}
use Rattle.pddl_terms.specs.declared.trees.Trajectory.{Trajectory}
use Rattle.pddl_terms.specs.declared.trees.ConForm.{ConForm}
use Rattle.pddl_names.specs.Declarations.{Text}
use Rattle.ground_world.specs.World.{World}
use Rattle.ground_world.specs.Leaves.{Leaf, Named, Cost, within, goal_preferences, constraint_leaves}
use Rattle.ground_world.specs.Counts.{fit_limits, around_count, soft_count, formula_count, trajectory_count, hard_count, part_limit}
use Rattle.grounder.specs.Asked.{count_of, written_count}

abbrev pub preference_fits : World → Leaf (Named SoftTree) → Bool
preference_fits w l = fit_limits (around_count w l.around) (soft_count w l.leaf.body)

abbrev pub goal_fits : World → GoalTree → Bool
goal_fits w g = list_all (preference_fits w) (goal_preferences g) && nat_le (count_of (hard_count w g)) part_limit

abbrev pub quantified_goal_fits : World → List Group → GoalTree → Bool
quantified_goal_fits w vars g = list_all (preference_fits w) (within vars (goal_preferences g))
    && nat_le (count_of (written_count w vars (hard_count w g))) part_limit

abbrev pub leaf_fits : World → Leaf (Option Text × Trajectory) → Bool
leaf_fits w l = fit_limits (around_count w l.around) (trajectory_count w l.leaf.1)

abbrev pub constraint_fits : World → ConForm → Bool
constraint_fits w c = list_all (leaf_fits w) (constraint_leaves c)

abbrev pub quantified_constraint_fits : World → List Group → ConForm → Bool
quantified_constraint_fits w vars c = list_all (leaf_fits w) (within vars (constraint_leaves c))

abbrev pub cost_fits : World → Cost → Bool
cost_fits w c = fit_limits 1 (formula_count w c.formula)
