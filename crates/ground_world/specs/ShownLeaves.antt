-- Believed: what the code's preferences, constraints and time costs stand for.
use Rattle.std.specs.Prelude.{ℕ, List, map, Option}
use Rattle.std.specs.Option.{option_map}
use Rattle.std.specs.Borrow.{Bor}
use Rattle.pddl_terms.specs.declared.trees.Group.{Group}
use Rattle.pddl_terms.specs.declared.trees.SoftTree.{SoftTree}
use Rattle.pddl_terms.specs.declared.trees.Trajectory.{Trajectory}
use Rattle.pddl_names.specs.Declarations.{Text}
use Rattle.ground_world.specs.Leaves.{Leaf, Named, Cost}
use Rattle.ground_world.specs.declared.leaves.GoalPreference.{GoalPreference}
use Rattle.ground_world.specs.declared.leaves.ConstraintLeaf.{ConstraintLeaf}
use Rattle.ground_world.specs.declared.leaves.CostLeaf.{CostLeaf}

abbrev pub lists_of : List (Bor (List Group)) → List (List Group)
lists_of gs = map (λ g. g.now) gs

abbrev pub text_of : Option (Bor (List ℕ)) → Option Text
text_of name = option_map (λ n. n.now) name

abbrev pub preferences_of : List GoalPreference → List (Leaf (Named SoftTree))
preferences_of ps = map (λ p. record { around = lists_of p.around; leaf = record { name = p.name.now; body = p.body.now } }) ps

abbrev pub constraints_of : List ConstraintLeaf → List (Leaf (Option Text × Trajectory))
constraints_of cs = map (λ c. record { around = lists_of c.around; leaf = (text_of c.name, c.trajectory.now) }) cs

abbrev pub costs_of : List CostLeaf → List Cost
costs_of cs = map (λ c. record { name = c.name.now; formula = c.formula.now; curve = c.curve.now }) cs
