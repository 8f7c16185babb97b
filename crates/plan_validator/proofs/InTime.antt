-- Where all lines are in time the trace of a plan never falls back.
use Rattle.std.proofs.Common.{◌≡◌, refl, ap, ◌∙◌, ℕ, suc, ◌+◌, ◌<◌, true, List, [], ◌∷◌, length, map, Option, Some, None, arith}
use Rattle.std.specs.Prelude.{slice_index_or}
use Rattle.std.specs.List.{AllByRecursion, range_with_len}
use Rattle.std.proofs.lemmas.List.Elements.{All-from_recursion}
use Rattle.rational.specs.Rational.{ℚ, zeroℚ, ◌≤ℚ◌}
use Rattle.rational.proofs.Inequalities.{le_trans, le_from_eq}
use Rattle.rational.proofs.Order.{lt_le}
use Rattle.basics.specs.Duties.{AllMet}
use Rattle.basics.proofs.Bools.{and_left, and_right}
use Rattle.basics.proofs.Lists.{each_append}
use Rattle.task_types.specs.declared.parts.Rules.{Rules}
use Rattle.task_types.specs.declared.parts.TaskParts.{TaskParts}
use Rattle.task_types.specs.declared.plans.PlanLine.{PlanLine}
use Rattle.task_types.specs.Plan.{Plan, Step, action_of, end_of, end_step, line_steps, plan_steps, timed_steps, steps, happenings}
use Rattle.task_types.specs.Sets.{numbers}
use Rattle.task_types.specs.Course.{count, time_of, state_after}
use Rattle.task_types.specs.Trace.{Moment, trace}
use Rattle.task_types.specs.WellMade.{IsWellMade, moments_ascend}
use Rattle.task_types.proofs.Comparisons.{le_out, lt_out}
use Rattle.timed_meaning.specs.Told.{timed_step}
use Rattle.trajectory.specs.Laws.{NeverFall}
use Rattle.trajectory.proofs.Times.{trace-NeverFall}
use Rattle.plan_validator.specs.Following.{HaveTimes}
use Rattle.plan_validator.specs.Kinds.{time_duties}

abbrev Late : Step → Type 0
Late s = zeroℚ ≤ℚ s.time

module _ (task : TaskParts) (rules : Rules) where
  ends : (l : PlanLine) → zeroℚ ≤ℚ end_of l → (o : Option ℕ) → AllByRecursion Late (end_step l o)
  ends l h None = tt
  ends l h (Some s) = (h, tt)

  lines : (plan : Plan) → AllMet (time_duties rules plan) → AllByRecursion Late (plan_steps task plan)
  lines [] h = tt
  lines (l ∷ ls) h = each_append Late (line_steps task l) (plan_steps task ls)
      (le_out zeroℚ l.at (and_left _ _ (and_left _ _ (and_left _ _ h.0))), ends l (le_out zeroℚ (end_of l) (and_right _ _ (and_left _ _ h.0))) (action_of task l.action).end)
      (lines ls h.1)

  moments : (t : ℚ) → zeroℚ ≤ℚ t → (ts : List (ℚ × ℕ)) → moments_ascend t ts ≡ true → AllByRecursion Late (map timed_step ts)
  moments t h [] e = tt
  moments t h (u ∷ ts) e = let k : zeroℚ ≤ℚ u.0 = le_trans zeroℚ t u.0 h (lt_le t u.0 (lt_out t u.0 (and_left _ _ e))) in (k, moments u.0 k ts (and_right _ _ e))

  pub in-time : IsWellMade task → (plan : Plan) → AllMet (time_duties rules plan) → NeverFall (trace task plan)
  in-time w plan h = trace-NeverFall task plan (All-from_recursion Late (steps task plan) (each_append Late (plan_steps task plan) (timed_steps task) (lines plan h) (moments zeroℚ (le_from_eq zeroℚ zeroℚ refl) task.timed (and_right _ _ w.timed))))

-- ---- the times of the trace

-- the numbers of a list, place by place
by-places : (xs ys : List ℚ) (a : ℕ) → ((i : ℕ) → i < length ys → slice_index_or xs (a + i) zeroℚ ≡ slice_index_or ys i zeroℚ) → map (λ k. slice_index_or xs k zeroℚ) (range_with_len a (length ys)) ≡ ys
by-places xs [] a h = refl
by-places xs (y ∷ ys) a h = ap (λ z. z ∷ map (λ k. slice_index_or xs k zeroℚ) (range_with_len (a + 1) (length ys))) (ap (λ k. slice_index_or xs k zeroℚ) (let e : a ≡ a + 0 = omega arith in e) ∙ h 0 (omega arith))
    ∙ ap (λ zs. y ∷ zs) (by-places xs ys (a + 1) (λ i l. ap (λ k. slice_index_or xs k zeroℚ) (let e : a + 1 + i ≡ a + suc i = omega arith in e) ∙ h (suc i) (omega (arith, l))))

module _ (task : TaskParts) (plan : Plan) where
  after_happening : ℕ → Moment
  after_happening k = record { facts = (state_after task plan k).facts; time = time_of task plan k }

  times-after : (ks : List ℕ) → map (λ (m : Moment). m.time) (map after_happening ks) ≡ map (time_of task plan) ks
  unfolding after_happening
  times-after [] = refl
  times-after (k ∷ ks) = ap (λ ts. time_of task plan k ∷ ts) (times-after ks)

  pub trace-times : HaveTimes (trace task plan) (happenings task plan)
  unfolding after_happening
  trace-times = ap (λ ts. zeroℚ ∷ ts) (times-after (numbers (count task plan)) ∙ by-places (happenings task plan) (happenings task plan) 0 (λ i l. ap (λ k. slice_index_or (happenings task plan) k zeroℚ) (let e : 0 + i ≡ i = omega arith in e)))
