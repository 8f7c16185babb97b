-- What the worked examples come to: actions, snap actions and timed steps.
use Rattle.std.proofs.Common.{refl}
use Rattle.rational.specs.Rational.{whole, ratio, reciprocal, inverse, neg_ℚ, ◌+ℚ◌, ◌*ℚ◌, cmp_ℚ}
use Rattle.rational.specs.Gcd.{gcd}
use Rattle.pddl_names.specs.Fitting.{fits, chain}
use Rattle.ground_world.specs.Counts.{bindings_fit}
use Rattle.ground_world.specs.Expressions.{can_multiply, can_add}
use Rattle.ground_world.specs.FirstState.{world}
use Rattle.grounder.specs.Answer.{units, ground_fault, ground_answer}
use Rattle.grounder.specs.Instances.{is_kept, kept, wide_in_actions}
use Rattle.grounder.specs.Task.{fact_atoms, timings, hard_terms, soft_terms, ground_task}
use Rattle.grounder.specs.ExampleActions.{ActionsComeOut}
use Rattle.ground_world.proofs.Walks as below
use Rattle.grounder.proofs.Walks.{walks}

pub actions_come_out : ActionsComeOut
unfolding world can_multiply can_add fits chain is_kept kept wide_in_actions fact_atoms timings hard_terms soft_terms ground_task bindings_fit units ground_fault ground_answer whole ratio reciprocal inverse neg_ℚ ◌+ℚ◌ ◌*ℚ◌ cmp_ℚ gcd
actions_come_out = record {
  snaps_numbered = simp below.walks;
  least_before_most = simp (walks, below.walks);
  bounds_at_the_end = simp (walks, below.walks);
  ends_follow_starts = simp (walks, below.walks);
  rates_at_start = simp (walks, below.walks);
  rate_changes = simp below.walks;
  kept_by_a_rate = simp below.walks;
  decrease_with_duration = simp (walks, below.walks);
  moments_ascend = refl;
  timed_steps = simp walks;
  literal_twice = simp (walks, below.walks);
}
