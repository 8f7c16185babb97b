-- Private: the units of a problem, from its goal, its preferences and its metric.
use Rattle.std.specs.Prelude.{List, [], ◌∷◌, ◌++◌, map, Option}
use Rattle.std.specs.List.{flat_map}
use Rattle.pddl_terms.specs.declared.trees.SoftTree.{SoftTree}
use Rattle.pddl_terms.specs.declared.trees.GoalTree.{GoalTree}
use Rattle.pddl_terms.specs.declared.files.Metric.{Metric}
use Rattle.ground_world.specs.World.{World, either}
use Rattle.ground_world.specs.Conditions.{tests_in}
use Rattle.ground_world.specs.Expressions.{Unknowns, reckoned, mentioned}
use Rattle.ground_world.specs.Leaves.{Leaf, Named, leaf_envs}
use Rattle.grounder.specs.Terms.{preference_parts, comparisons_in, goal_parts}
use Rattle.grounder.specs.Answer.{Unit, unit_of_tests}

abbrev pub preference_units : World → Leaf (Named SoftTree) → List Unit
preference_units w l = map (λ env. unit_of_tests w (flat_map (comparisons_in w env) (preference_parts w l.leaf.body))) (leaf_envs w l)

abbrev pub metric_unit : World → Unknowns → Metric → Unit
metric_unit w us m = record { mentions = mentioned w [] m.expression; reckons = reckoned w us [] m.expression ∷ [] }

abbrev pub problem_units : World → Unknowns → GoalTree → List (Leaf (Named SoftTree)) → Option Metric → List Unit
problem_units w us goal leaves metric = unit_of_tests w (flat_map tests_in (goal_parts w [] goal))
    ∷ (flat_map (preference_units w) leaves ++ either [] (λ m. metric_unit w us m ∷ []) metric)
