-- What the worked examples come to: which bindings make actions, and in which order.
use Rattle.rational.specs.Rational.{whole, ratio, reciprocal, inverse, neg_ℚ, ◌+ℚ◌, ◌*ℚ◌, cmp_ℚ}
use Rattle.rational.specs.Gcd.{gcd}
use Rattle.pddl_names.specs.Fitting.{fits, chain}
use Rattle.ground_world.specs.Counts.{bindings_fit}
use Rattle.ground_world.specs.Expressions.{can_multiply, can_add}
use Rattle.ground_world.specs.FirstState.{world}
use Rattle.grounder.specs.Answer.{units, ground_fault, ground_answer}
use Rattle.grounder.specs.Instances.{is_kept, kept, wide_in_actions}
use Rattle.grounder.specs.Task.{fact_atoms, timings, hard_terms, soft_terms, ground_task}
use Rattle.grounder.specs.ExampleBindings.{BindingsComeOut}
use Rattle.ground_world.proofs.Walks as below
use Rattle.grounder.proofs.Walks.{walks}

pub bindings_come_out : BindingsComeOut
unfolding world can_multiply can_add fits chain is_kept kept wide_in_actions fact_atoms timings hard_terms soft_terms ground_task bindings_fit units ground_fault ground_answer whole ratio reciprocal inverse neg_ℚ ◌+ℚ◌ ◌*ℚ◌ cmp_ℚ gcd
bindings_come_out = record {
  first_parameter_slowest = simp below.walks;
  constants_first = simp below.walks;
  static_negated = simp below.walks;
  ring_of_types = simp below.walks;
  hidden_variable = simp (walks, below.walks);
  equal_objects_dropped = simp below.walks;
}
