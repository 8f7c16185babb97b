-- The costs of small plans.
use Rattle.std.proofs.Common.{◌≡◌, refl, true}
use Rattle.rational.specs.Gcd.{gcd}
use Rattle.rational.specs.Rational.{ratio, whole, ◌+ℚ◌, ◌*ℚ◌, neg_ℚ, cmp_ℚ, inverse, reciprocal}
use Rattle.task_types.specs.State.{value, holds, literal_holds, tree_holds}
use Rattle.task_types.specs.Plan.{happenings}
use Rattle.task_types.specs.Course.{initial, rate, moved, happen, reached, before, after}
use Rattle.task_types.specs.Trace.{met, first_moment, first_state}
use Rattle.task_types.specs.Cost.{cost}
use Rattle.task_types.specs.Examples.{done}
use Rattle.task_types.specs.ExampleCosts.{CostsComeOut}
use Rattle.task_types.proofs.Truths.{tree_holds-is}

pub done_holds : tree_holds done ≡ literal_holds (record { fact = 0; holds = true })
done_holds = tree_holds-is (record { fact = 0; holds = true })

pub costs_come_out : CostsComeOut
unfolding gcd ratio whole ◌+ℚ◌ ◌*ℚ◌ neg_ℚ cmp_ℚ inverse reciprocal value holds happenings initial rate moved happen reached before after met first_moment first_state cost
costs_come_out = record {
  full_cost = refl;
  its_end = refl;
  by_duration = refl;
  in_turn = refl;
  at_hard = rw done_holds refl;
  between = rw done_holds refl;
  never = rw done_holds refl;
  from_the_first = rw done_holds refl;
  the_first_counts = rw done_holds refl;
  in_pieces = rw done_holds refl;
  past_all = rw done_holds refl;
  never_in_pieces = rw done_holds refl;
  at_zero = rw done_holds refl;
  below_zero = rw done_holds refl;
  twice = rw done_holds refl;
  violated = rw done_holds refl;
  violated_by_nothing = rw done_holds refl;
  just_in_time = rw done_holds refl;
  too_dear = rw done_holds refl;
  first_done = rw done_holds refl;
  never_done = rw done_holds refl;
}
