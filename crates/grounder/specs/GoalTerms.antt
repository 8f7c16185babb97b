-- Private: the soft term of an instance of a goal preference, from the parts of the preference, and that of a time cost.
use Rattle.std.specs.Prelude.{List, [], map}
use Rattle.std.specs.List.{flat_map}
use Rattle.rational.specs.Rational.{ℚ}
use Rattle.task_types.specs.declared.costs.Soft.{Soft}
use Rattle.task_types.specs.declared.costs.Soft.TheVariants as soft
use Rattle.ground_world.specs.World.{Env}
use Rattle.grounder.specs.Terms.{PreferencePart, formula, formulas_in, comparisons_in}
use Rattle.ground_world.specs.Leaves.{Cost}
use Rattle.grounder.specs.Task.{Ground, fact_number, compared, all_of, soft_cost, cost_weight}

abbrev pub goal_term : Ground → List PreferencePart → ℚ → Env → Soft
goal_term g xs weight env = soft.Goal
    (all_of (map (formula g.world (fact_number g) env) (flat_map formulas_in xs)))
    (flat_map (λ x. flat_map (compared g) (comparisons_in g.world env x)) xs)
    weight

abbrev pub cost_term : Ground → Cost → Soft
cost_term g c = soft_cost (formula g.world (fact_number g) [] c.formula) c.curve (cost_weight g c.name)
