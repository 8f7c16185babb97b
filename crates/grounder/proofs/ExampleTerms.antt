-- What the worked examples come to: preferences, constraints, formulas and weights.
use Rattle.rational.specs.Rational.{whole, ratio, reciprocal, inverse, neg_ℚ, ◌+ℚ◌, ◌*ℚ◌, cmp_ℚ}
use Rattle.rational.specs.Gcd.{gcd}
use Rattle.pddl_names.specs.Fitting.{fits, chain}
use Rattle.ground_world.specs.Counts.{bindings_fit}
use Rattle.ground_world.specs.Expressions.{can_multiply, can_add}
use Rattle.ground_world.specs.FirstState.{world}
use Rattle.grounder.specs.Answer.{units, ground_fault, ground_answer}
use Rattle.grounder.specs.Instances.{is_kept, kept, wide_in_actions}
use Rattle.grounder.specs.Task.{fact_atoms, timings, hard_terms, soft_terms, ground_task}
use Rattle.grounder.specs.ExampleTerms.{TermsComeOut}
use Rattle.ground_world.proofs.Walks as below
use Rattle.grounder.proofs.Walks.{walks}

pub terms_come_out : TermsComeOut
unfolding world can_multiply can_add fits chain is_kept kept wide_in_actions fact_atoms timings hard_terms soft_terms ground_task bindings_fit units ground_fault ground_answer whole ratio reciprocal inverse neg_ℚ ◌+ℚ◌ ◌*ℚ◌ cmp_ℚ gcd
terms_come_out = record {
  nested_foralls = simp (walks, below.walks);
  weights = simp (walks, below.walks);
  weights_of_the_metric = simp below.walks;
  timed_terms = simp (walks, below.walks);
  quantified_formula = simp (walks, below.walks);
}
