-- Small orderings.
use Rattle.std.proofs.Common.{refl, ℕ, zero, suc, ◌<◌, ◌≤◌, arith}
use Rattle.std.specs.Prelude.{pos}
use Rattle.rational.specs.Gcd.{gcd}
use Rattle.rational.specs.Rational.{ratio, whole, ◌+ℚ◌, ◌*ℚ◌, neg_ℚ, cmp_ℚ}
use Rattle.task_types.specs.State.{value, holds}
use Rattle.task_types.specs.Plan.{happenings, action_of}
use Rattle.task_types.specs.Course.{initial, rate, moved, happen, reached, before, after}
use Rattle.task_types.specs.Clash.{clash}
use Rattle.task_types.specs.Trace.{met}
use Rattle.task_types.specs.Valid.{HoldsOverAll}
use Rattle.task_types.specs.Touch.{tokens}
use Rattle.task_types.specs.Order.{is_built, is_closed, link}
use Rattle.task_types.specs.Blocking.{blocked, block_tests}
use Rattle.task_types.specs.Agreement.{agree, plan_of, ValidTimes}
use Rattle.task_types.specs.Examples.{n, rules, pair_watch, lasting, once, up_then_down, up_then_down_times, up_then_down_plan, down_then_up_plan}
use Rattle.task_types.specs.ExampleOrderings.{BuiltOrderingsComeOut, ClosedOrderingsComeOut, TimesComeOut, BlockedOrderingsComeOut}
use Rattle.task_types.proofs.ExampleTasks.{no}
use Rattle.task_types.proofs.Comparisons.{lt_out}
use Rattle.task_types.proofs.ExamplePlans.{nothing_asked}
use Rattle.task_types.proofs.ExampleCosts.{done_holds}
use Rattle.task_types.proofs.Whole.{over_segments, BothEnds}

pair_watch_over_all : HoldsOverAll pair_watch up_then_down_plan (lasting 0 (n 0) (n 1) 1)
unfolding gcd ratio whole ◌+ℚ◌ ◌*ℚ◌ neg_ℚ cmp_ℚ value holds happenings initial rate moved happen reached before after
pair_watch_over_all = over_segments pair_watch up_then_down_plan (action_of pair_watch 0).over_all 0 3 refl (omega arith) (omega arith) ends
  where
    ends : (k : ℕ) → 0 ≤ k → k < 3 → BothEnds pair_watch up_then_down_plan (action_of pair_watch 0).over_all k
    ends zero a b = (refl, refl)
    ends (suc zero) a b = (refl, refl)
    ends (suc (suc zero)) a b = (refl, refl)
    ends (suc (suc (suc k))) a b = absurd (omega arith)

its_times : ValidTimes pair_watch rules up_then_down up_then_down_times
unfolding gcd ratio whole ◌+ℚ◌ ◌*ℚ◌ neg_ℚ cmp_ℚ value holds happenings initial rate moved happen reached before after clash met is_built is_closed agree link tokens plan_of
its_times = record {
  ordering = record { built = refl; closed = refl };
  agreeing = refl;
  valid = record {
    formed = refl;
    in_time = refl;
    durations = refl;
    apart = refl;
    starts = refl;
    ends = refl;
    over_all = (pair_watch_over_all, (nothing_asked pair_watch up_then_down_plan (once 1 (ratio (pos 998) 1000) 2) refl, (nothing_asked pair_watch up_then_down_plan (once 2 (ratio (pos 999) 1000) 3) refl, tt)));
    goal = refl;
    constraints = refl;
  };
}

wrong_way : ¬ HoldsOverAll pair_watch down_then_up_plan (lasting 0 (n 0) (n 1) 1)
unfolding gcd ratio whole ◌+ℚ◌ ◌*ℚ◌ neg_ℚ cmp_ℚ value holds happenings initial rate moved happen reached before after
wrong_way f = no (f (ratio (pos 998) 1000) (lt_out (n 0) (ratio (pos 998) 1000) refl) (lt_out (ratio (pos 998) 1000) (n 0 +ℚ n 1) refl)).1

pub built_orderings : BuiltOrderingsComeOut
unfolding is_built
built_orderings = record {
  pair_built = refl;
  gate_built = refl;
  closing_first = refl;
  started_twice = refl;
  not_started = refl;
  as_many_as_may_be = refl;
  one_too_many = refl;
  pair_to_later = refl;
  pair_to_itself = refl;
  pair_past_the_end = refl;
}

pub closed_orderings : ClosedOrderingsComeOut
unfolding is_closed
closed_orderings = record {
  pair_closed = refl;
  gate_closed = refl;
  no_timed_steps = refl;
  still_running = refl;
}

pub times_come_out : TimesComeOut
unfolding gcd ratio whole ◌+ℚ◌ ◌*ℚ◌ neg_ℚ cmp_ℚ agree link tokens plan_of
times_come_out = record {
  its_plan = refl;
  its_times = its_times;
  wrong_way = wrong_way;
  too_near = refl;
  weak = refl;
  not_weak = refl;
  free = refl;
  set_apart = refl;
  on_time = refl;
  gate_moved = refl;
  gate_plan = refl;
  too_few = refl;
}

pub blocked_orderings : BlockedOrderingsComeOut
unfolding gcd ratio whole ◌+ℚ◌ ◌*ℚ◌ neg_ℚ cmp_ℚ initial met blocked block_tests
blocked_orderings = record {
  not_blocked = refl;
  through = refl;
  own_literal = refl;
  over_all = refl;
  goal = refl;
  never_met = rw done_holds refl;
  within_at_first = rw done_holds refl;
  too_late_at_first = rw done_holds refl;
}
