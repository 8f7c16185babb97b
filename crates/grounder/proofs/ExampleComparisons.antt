-- What the worked examples come to: equalities of terms, and the forms of comparisons.
use Rattle.rational.specs.Rational.{whole, ratio, reciprocal, inverse, neg_ℚ, ◌+ℚ◌, ◌*ℚ◌, cmp_ℚ}
use Rattle.rational.specs.Gcd.{gcd}
use Rattle.pddl_names.specs.Fitting.{fits, chain}
use Rattle.ground_world.specs.Counts.{bindings_fit}
use Rattle.ground_world.specs.Expressions.{can_multiply, can_add}
use Rattle.ground_world.specs.FirstState.{world}
use Rattle.grounder.specs.Answer.{units, ground_fault, ground_answer}
use Rattle.grounder.specs.Instances.{is_kept, kept, wide_in_actions}
use Rattle.grounder.specs.Task.{fact_atoms, timings, hard_terms, soft_terms, ground_task}
use Rattle.grounder.specs.ExampleComparisons.{ComparisonsComeOut}
use Rattle.ground_world.proofs.Walks as below
use Rattle.grounder.proofs.Walks.{walks}

pub comparisons_come_out : ComparisonsComeOut
unfolding world can_multiply can_add fits chain is_kept kept wide_in_actions fact_atoms timings hard_terms soft_terms ground_task bindings_fit units ground_fault ground_answer whole ratio reciprocal inverse neg_ℚ ◌+ℚ◌ ◌*ℚ◌ cmp_ℚ gcd
comparisons_come_out = record {
  failing_equality_in_goal = simp (walks, below.walks);
  equality_in_formula = simp (walks, below.walks);
  equality_by_names = simp below.walks;
  numeric_equality = simp (walks, below.walks);
  at_most = simp (walks, below.walks);
}
