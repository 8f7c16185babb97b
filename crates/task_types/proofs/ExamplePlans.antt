-- Small plans that are valid, and others with the first reason why they aren't.
use Rattle.std.proofs.Common.{◌≡◌, refl, sym, subst, true, [], ◌∷◌, inl, inr, arith}
use Rattle.std.specs.Prelude.{pos, IsTrue}
use Rattle.rational.specs.Gcd.{gcd}
use Rattle.rational.specs.Rational.{ratio, whole, ◌+ℚ◌, ◌*ℚ◌, neg_ℚ, cmp_ℚ}
use Rattle.task_types.specs.declared.parts.TaskParts.{TaskParts}
use Rattle.task_types.specs.declared.plans.PlanLine.{PlanLine}
use Rattle.task_types.specs.State.{value, holds}
use Rattle.task_types.specs.Plan.{Plan, happenings, action_of}
use Rattle.task_types.specs.Course.{initial, rate, moved, happen, reached, before, after}
use Rattle.task_types.specs.Clash.{clash}
use Rattle.task_types.specs.Trace.{met}
use Rattle.task_types.specs.Valid.{HoldsOverAll, HoldsWithin, duties}
use Rattle.task_types.specs.Examples.{n, always_true, tank, charge, gate, lasting, fill, passing, fact_holds}
use Rattle.task_types.specs.ExamplePlans.{PlansAreValid, PlansAreRefused, nobody_through, always_open}
use Rattle.task_types.proofs.ExampleTasks.{no}
use Rattle.task_types.proofs.Comparisons.{lt_out}
use Rattle.task_types.proofs.Segment.{segment}
use Rattle.task_types.proofs.Truths.{tree_holds-is_at}

-- an action without an over-all condition
pub nothing_asked : (task : TaskParts) (plan : Plan) (l : PlanLine) → (action_of task l.action).over_all ≡ always_true → HoldsOverAll task plan l
unfolding holds
nothing_asked task plan l e t h k = subst (λ c. IsTrue (holds c (before task plan t)) × IsTrue (holds c (after task plan t))) (sym e) (refl, refl)

tank_over_all : HoldsOverAll (tank (n 0)) fill (lasting 0 (n 0) (n 5) 1)
unfolding gcd ratio whole ◌+ℚ◌ ◌*ℚ◌ neg_ℚ cmp_ℚ value holds happenings initial rate moved happen reached before after clash met
tank_over_all = (segment (tank (n 0)) fill 0 (action_of (tank (n 0)) 0).over_all (omega arith) refl).1 (refl, refl)

-- the gate is open from 5 to 9, whatever the goal and the constraints are
passed : HoldsOverAll gate (passing (n 5)) (lasting 0 (n 5) (n 4) 7)
unfolding gcd ratio whole ◌+ℚ◌ ◌*ℚ◌ neg_ℚ cmp_ℚ value holds happenings initial rate moved happen reached before after clash met
passed = (segment gate (passing (n 5)) 0 (fact_holds 0) (omega arith) refl).1 (refl, refl)

pub plans_are_valid : PlansAreValid
unfolding gcd ratio whole ◌+ℚ◌ ◌*ℚ◌ neg_ℚ cmp_ℚ value holds happenings initial rate moved happen reached before after clash met
plans_are_valid = record {
  full = record { formed = refl; in_time = refl; durations = refl; apart = refl; starts = refl; ends = refl; over_all = (tank_over_all, tt); goal = refl; constraints = refl };
  charged = record { formed = refl; in_time = refl; durations = refl; apart = refl; starts = refl; ends = refl; over_all = (nothing_asked (charge true) (lasting 0 (n 0) (n 1) 1 ∷ []) (lasting 0 (n 0) (n 1) 1) refl, tt); goal = refl; constraints = refl };
  passed = record { formed = refl; in_time = refl; durations = refl; apart = refl; starts = refl; ends = refl; over_all = (passed, tt); goal = refl; constraints = refl };
}

-- ---- over-all conditions that fail

tank_overflows : ¬ HoldsOverAll (tank (n 1)) fill (lasting 0 (n 0) (n 5) 1)
unfolding gcd ratio whole ◌+ℚ◌ ◌*ℚ◌ neg_ℚ cmp_ℚ value holds happenings initial rate moved happen reached before after clash met
tank_overflows f = no (f (ratio (pos 19) 4) (lt_out (n 0) (ratio (pos 19) 4) refl) (lt_out (ratio (pos 19) 4) (n 0 +ℚ n 5) refl)).0

closed_before : ¬ HoldsWithin gate (passing (n 4)) (fact_holds 0) (n 4) (n 5)
unfolding gcd ratio whole ◌+ℚ◌ ◌*ℚ◌ neg_ℚ cmp_ℚ value holds happenings initial rate moved happen reached before after clash met
closed_before f = no (f (ratio (pos 9) 2) (lt_out (n 4) (ratio (pos 9) 2) refl) (lt_out (ratio (pos 9) 2) (n 5) refl)).0

closed_after : ¬ HoldsWithin gate (passing (n 7)) (fact_holds 0) (n 10) (n 11)
unfolding gcd ratio whole ◌+ℚ◌ ◌*ℚ◌ neg_ℚ cmp_ℚ value holds happenings initial rate moved happen reached before after clash met
closed_after f = no (f (ratio (pos 21) 2) (lt_out (n 10) (ratio (pos 21) 2) refl) (lt_out (ratio (pos 21) 2) (n 11) refl)).0

open_till : HoldsWithin gate (passing (n 7)) (fact_holds 0) (n 7) (n 10)
unfolding gcd ratio whole ◌+ℚ◌ ◌*ℚ◌ neg_ℚ cmp_ℚ value holds happenings initial rate moved happen reached before after clash met
open_till = (segment gate (passing (n 7)) 1 (fact_holds 0) (omega arith) refl).1 (refl, refl)

open_to_the_goal : HoldsWithin (record gate { goal = fact_holds 0 }) (passing (n 5)) (fact_holds 0) (n 5) (n 9)
unfolding gcd ratio whole ◌+ℚ◌ ◌*ℚ◌ neg_ℚ cmp_ℚ value holds happenings initial rate moved happen reached before after clash met
open_to_the_goal = (segment (record gate { goal = fact_holds 0 }) (passing (n 5)) 0 (fact_holds 0) (omega arith) refl).1 (refl, refl)

open_to_nobody : HoldsWithin nobody_through (passing (n 5)) (fact_holds 0) (n 5) (n 9)
unfolding gcd ratio whole ◌+ℚ◌ ◌*ℚ◌ neg_ℚ cmp_ℚ value holds happenings initial rate moved happen reached before after clash met
open_to_nobody = (segment nobody_through (passing (n 5)) 0 (fact_holds 0) (omega arith) refl).1 (refl, refl)

open_all_the_while : HoldsWithin always_open (passing (n 5)) (fact_holds 0) (n 5) (n 9)
unfolding gcd ratio whole ◌+ℚ◌ ◌*ℚ◌ neg_ℚ cmp_ℚ value holds happenings initial rate moved happen reached before after clash met
open_all_the_while = (segment always_open (passing (n 5)) 0 (fact_holds 0) (omega arith) refl).1 (refl, refl)

pub plans_are_refused : PlansAreRefused
unfolding gcd ratio whole ◌+ℚ◌ ◌*ℚ◌ neg_ℚ cmp_ℚ value holds happenings initial rate moved happen reached before after clash met duties
plans_are_refused = record {
  no_duration = λ v. no v.formed;
  no_such_action = λ v. no v.formed;
  early = inl ((λ e. no e), refl);
  past_horizon = inl ((λ e. no e), refl);
  under_epsilon = inr (refl, inl ((λ e. no e), refl));
  too_short = inr (refl, inl ((λ e. no e), refl));
  not_charged = inr (refl, inl ((λ e. no e), refl));
  both_put = inr (refl, inr (refl, inr (refl, inr (refl, inr (refl, inl ((λ e. no e), refl))))));
  at_the_opening = inr (refl, inr (refl, inr (refl, inl ((λ e. no e), refl))));
  own_effect = inr (refl, inr (refl, inr (refl, inl ((λ e. no e), refl))));
  not_false = inr (refl, inr (refl, inr (refl, inl ((λ e. no e), refl))));
  end_asks = inr (refl, inr (refl, inr (refl, inr (refl, inl ((λ e. no e), refl)))));
  overflows = inr (refl, inr (refl, inr (refl, inr (refl, inr (refl, inl ((λ f. tank_overflows (f refl)), refl))))));
  too_early = inr (refl, inr (refl, inr (refl, inr (refl, inr (refl, inr (refl, inr (refl, inl ((λ f. closed_before (f refl)), refl))))))));
  too_late = inr (refl, inr (refl, inr (refl, inr (refl, inr (refl, inr (refl, inr (refl, inr (λ e. absurd (no e), inr (λ _. open_till, inl ((λ f. closed_after (f refl)), refl))))))))));
  closed_at_last = inr (refl, inr (refl, inr (refl, inr (refl, inr (refl, inr (refl, inr (refl, inr (λ _. open_to_the_goal, inr (λ e. absurd (no e), inl ((λ e. no e), refl))))))))));
  got_through = inr (refl, inr (refl, inr (refl, inr (refl, inr (refl, inr (refl, inr (refl, inr (λ _. open_to_nobody, inr (λ e. absurd (no e), inr (refl, inl ((λ e. no (simp tree_holds-is_at at e)), refl)))))))))));
  closed_at_first = inr (refl, inr (refl, inr (refl, inr (refl, inr (refl, inr (refl, inr (refl, inr (λ _. open_all_the_while, inr (λ e. absurd (no e), inr (refl, inr (simp tree_holds-is_at, inl ((λ e. no (simp tree_holds-is_at at e)), refl))))))))))));
}
