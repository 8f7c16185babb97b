-- What the worked examples come to: which fault is told, and at which place.
use Rattle.rational.specs.Rational.{whole, ratio, reciprocal, inverse, neg_ℚ, ◌+ℚ◌, ◌*ℚ◌, cmp_ℚ}
use Rattle.rational.specs.Gcd.{gcd}
use Rattle.pddl_names.specs.Fitting.{fits, chain}
use Rattle.ground_world.specs.Counts.{bindings_fit}
use Rattle.ground_world.specs.Expressions.{can_multiply, can_add}
use Rattle.ground_world.specs.FirstState.{world}
use Rattle.grounder.specs.Answer.{units, ground_fault, ground_answer}
use Rattle.grounder.specs.Instances.{is_kept, kept, wide_in_actions}
use Rattle.grounder.specs.Task.{fact_atoms, timings, hard_terms, soft_terms, ground_task}
use Rattle.grounder.specs.ExampleFaults.{FaultsComeOut}
use Rattle.ground_world.proofs.Walks as below
use Rattle.grounder.proofs.Walks.{walks}

pub faults_come_out : FaultsComeOut
unfolding world can_multiply can_add fits chain is_kept kept wide_in_actions fact_atoms timings hard_terms soft_terms ground_task bindings_fit units ground_fault ground_answer whole ratio reciprocal inverse neg_ℚ ◌+ℚ◌ ◌*ℚ◌ cmp_ℚ gcd
faults_come_out = record {
  wide_before_zero = simp below.walks;
  zero_divisors_dropped = simp below.walks;
  wide_at_the_list = simp (walks, below.walks);
  wide_before_no_value = simp (walks, below.walks);
  least_place = simp (walks, below.walks);
  unvalued_unit_reckons_nothing = simp (walks, below.walks);
}
