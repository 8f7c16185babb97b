-- What the worked examples come to: what is counted, and the limits.
use Rattle.std.proofs.Common.{refl}
use Rattle.rational.specs.Rational.{whole, ratio, reciprocal, inverse, neg_ℚ, ◌+ℚ◌, ◌*ℚ◌, cmp_ℚ}
use Rattle.rational.specs.Gcd.{gcd}
use Rattle.pddl_names.specs.Fitting.{fits, chain}
use Rattle.ground_world.specs.Counts.{bindings_fit}
use Rattle.ground_world.specs.Expressions.{can_multiply, can_add}
use Rattle.ground_world.specs.FirstState.{world}
use Rattle.grounder.specs.Answer.{units, ground_fault, ground_answer}
use Rattle.grounder.specs.Instances.{is_kept, kept, wide_in_actions}
use Rattle.grounder.specs.Task.{fact_atoms, timings, hard_terms, soft_terms, ground_task}
use Rattle.grounder.specs.ExampleLimits.{LimitsComeOut}
use Rattle.ground_world.proofs.Walks as below
use Rattle.grounder.proofs.Walks.{walks}

pub limits_come_out : LimitsComeOut
unfolding world can_multiply can_add fits chain is_kept kept wide_in_actions fact_atoms timings hard_terms soft_terms ground_task bindings_fit units ground_fault ground_answer whole ratio reciprocal inverse neg_ℚ ◌+ℚ◌ ◌*ℚ◌ cmp_ℚ gcd
limits_come_out = record {
  limit_names = refl;
  limit_numbers = refl;
  terms_together = simp (walks, below.walks);
  counts_of_actions = simp below.walks;
  count_of_goal = simp below.walks;
  parts_without_a_binding = simp below.walks;
  no_outer_binding = simp below.walks;
  no_binding_no_parts = refl;
  past_the_parts = refl;
  at_both_limits = refl;
  past_the_bindings = refl;
}
