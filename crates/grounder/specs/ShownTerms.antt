-- Private: the leaf that a preference, a constraint or a time cost of the code is.
use Rattle.std.specs.Prelude.{Option}
use Rattle.pddl_terms.specs.declared.trees.SoftTree.{SoftTree}
use Rattle.pddl_terms.specs.declared.trees.Trajectory.{Trajectory}
use Rattle.pddl_names.specs.Declarations.{Text}
use Rattle.ground_world.specs.Leaves.{Leaf, Named, Cost}
use Rattle.ground_world.specs.ShownLeaves.{lists_of, text_of}
use Rattle.ground_world.specs.declared.leaves.GoalPreference.{GoalPreference}
use Rattle.ground_world.specs.declared.leaves.ConstraintLeaf.{ConstraintLeaf}
use Rattle.ground_world.specs.declared.leaves.CostLeaf.{CostLeaf}

abbrev pub preference_leaf : GoalPreference → Leaf (Named SoftTree)
preference_leaf p = record { around = lists_of p.around; leaf = record { name = p.name.now; body = p.body.now } }

abbrev pub constraint_leaf : ConstraintLeaf → Leaf (Option Text × Trajectory)
constraint_leaf c = record { around = lists_of c.around; leaf = (text_of c.name, c.trajectory.now) }

abbrev pub cost_leaf : CostLeaf → Cost
cost_leaf c = record { name = c.name.now; formula = c.formula.now; curve = c.curve.now }
