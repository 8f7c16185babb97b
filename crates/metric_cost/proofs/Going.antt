-- The trace seen along a sweep, state by state.
use Rattle.std.proofs.Common.{◌≡◌, refl, sym, ap, subst, ◌∙◌, ℕ, zero, suc, ◌+◌, ◌<◌, Bool, List, [], ◌∷◌, ◌++◌, length, map, arith, add-one}
use Rattle.std.specs.Prelude.{slice_index_or, true, false, nat_lt, if◌then◌else◌, Result, Ok, Err}
use Rattle.basics.proofs.Naturals.{lt_out}
use Rattle.basics.proofs.Lists.{each_left}
use Rattle.std.proofs.lemmas.List.FromFn.{length-map-range_with_len}
use Rattle.rational.specs.Rational.{ℚ, zeroℚ}
use Rattle.exact_lin.specs.Reckoning.{wide_limit}
use Rattle.exact_lin.specs.Reckonings.{AllDefined, IsFirstUndefined, IsDefined}
use Rattle.task_types.specs.declared.parts.TaskParts.{TaskParts}
use Rattle.task_types.specs.State as meaning
use Rattle.task_types.specs.Sets.{numbers}
use Rattle.task_types.specs.Plan.{Plan}
use Rattle.task_types.specs.Course.{initial, state_before, state_after, last_state, time_of, count, reached, state}
use Rattle.task_types.specs.Trace.{Trace, Moment, trace}
use Rattle.task_types.specs.Cost.{cost}
use Rattle.task_types.specs.Reckoned.{effects_at, move_at, move_to, course_before, cost_reckoned, course_of_cost}
use Rattle.task_types.proofs.Places.{map-numbers-more}
use Rattle.trajectory.specs.Facts.{moment_of}
use Rattle.timed_meaning.specs.declared.faults.MeaningFault.{MeaningFault}
use Rattle.timed_meaning.specs.declared.faults.MeaningFault.TheVariants.{Wide, Memory}
use Rattle.timed_meaning.specs.Answers.{told, Facts, Fluents, Defined}
use Rattle.timed_meaning.proofs.Amounts.{append-in}
use Rattle.timed_meaning.proofs.Courses.{Course, all-put, stop-put, first-put}
use Rattle.metric_cost.specs.declared.watchers.CostWatchers.{CostWatchers}
use Rattle.metric_cost.specs.Watching.{HaveSeen}
use Rattle.metric_cost.specs.Answers.{Costs}
use Rattle.metric_cost.specs.Following.{moment_after, trace_before, GoesTo, GoesAlong}

module _ (task : TaskParts) (plan : Plan) where
  trace-more : (k : ℕ) → trace_before task plan k ++ moment_after task plan k ∷ [] ≡ trace_before task plan (suc k)
  trace-more k = ap (λ l. record { facts = (initial task).facts; time = zeroℚ } ∷ l) (sym (map-numbers-more (moment_after task plan) k) ∙ ap (λ (n : ℕ). map (moment_after task plan) (numbers n)) (add-one k))

  pub trace-length : (k : ℕ) → length (trace_before task plan k) ≡ suc k
  trace-length k = ap suc (length-map-range_with_len (moment_after task plan) 0 k)

  -- the initial state is seen
  pub seen-first : (ws : CostWatchers) (facts : List Bool) (zero_time : ℚ) → zero_time ≡ zeroℚ → Facts task facts (state_before task plan 0) → HaveSeen task ws ([] ++ moment_of facts zero_time ∷ []) → HaveSeen task ws (trace_before task plan 0)
  unfolding reached
  seen-first ws facts t e f h = subst (λ (m : Moment). HaveSeen task ws (m ∷ [])) (ap (λ (q : ℚ). moment_of facts q) e ∙ ap (λ g. record { facts = g; time = zeroℚ }) f.tells) h

  -- the state after a happening is seen
  pub seen-next : (ws : CostWatchers) (k : ℕ) (facts : List Bool) (t : ℚ) → t ≡ time_of task plan k → Facts task facts (state_after task plan k)
      → HaveSeen task ws (trace_before task plan k ++ moment_of facts t ∷ []) → HaveSeen task ws (trace_before task plan (suc k))
  seen-next ws k facts t e f h = subst (λ (xs : Trace). HaveSeen task ws xs)
      (ap (λ (m : Moment). trace_before task plan k ++ m ∷ []) (ap (λ (q : ℚ). moment_of facts q) e ∙ ap (λ g. record { facts = g; time = time_of task plan k }) f.tells) ∙ trace-more k) h

pub told-is : (task : TaskParts) (facts : List Bool) (fluents : List ℚ) (s : meaning.State) → Facts task facts s → Fluents task fluents s → told facts fluents ≡ s
told-is task facts fluents s f v = ap (λ g. record { facts = g; fluents = λ n. slice_index_or fluents n zeroℚ }) f.tells ∙ ap (λ g. record { facts = s.facts; fluents = g }) v.tells

-- ---- the last state
module _ (task : TaskParts) (plan : Plan) (place : ℕ) where
  pub last-before : place ≡ 0 → count task plan ≡ 0 → state_before task plan place ≡ last_state task plan
  unfolding reached
  last-before e f = ap (state_before task plan) e ∙ ap (state task plan) (sym f)

  pub last-after : (k : ℕ) → place ≡ k → count task plan ≡ suc k → state_after task plan place ≡ last_state task plan
  last-after k e f = ap (state_after task plan) e ∙ ap (state task plan) (sym f)

-- ---- the course
module _ (task : TaskParts) (plan : Plan) (k : ℕ) (last : k + 1 ≡ count task plan) where
  move-none : move_at task plan k ≡ []
  move-none = ap (λ b. if b then move_to task plan k (time_of task plan (k + 1)) else []) (not_below (nat_lt (k + 1) (count task plan)) refl)
    where
      not_below : (b : Bool) → nat_lt (k + 1) (count task plan) ≡ b → b ≡ false
      not_below true e = let h = lt_out (k + 1) (count task plan) e in absurd (omega arith)
      not_below false e = refl

  course-last : course_before task plan (count task plan) ≡ course_before task plan k ++ (k, effects_at task plan k ++ move_at task plan k) ∷ []
  course-last = ap (course_before task plan) (sym last) ∙ map-numbers-more (λ j. (j, effects_at task plan j ++ move_at task plan j)) k

  pub all-gone : AllDefined wide_limit (course_before task plan k) → Defined (effects_at task plan k) → AllDefined wide_limit (course_before task plan (count task plan))
  all-gone h d = subst (λ (ps : Course). AllDefined wide_limit ps) (sym course-last) (all-put (course_before task plan k) k (effects_at task plan k ++ move_at task plan k) h
      (append-in (effects_at task plan k) (move_at task plan k) d (subst Defined (sym move-none) tt)))

  pub last-stopped : AllDefined wide_limit (course_before task plan k) → ¬ (Defined (effects_at task plan k)) → IsFirstUndefined wide_limit (course_before task plan (count task plan)) k
  last-stopped h n = subst (λ (ps : Course). IsFirstUndefined wide_limit ps k) (sym course-last) (stop-put (course_before task plan k) k (effects_at task plan k ++ move_at task plan k) h
      (λ d. n (each_left (IsDefined wide_limit) (effects_at task plan k) (move_at task plan k) d)))

  pub stopped-before : (f : MeaningFault) → GoesTo (Err f) task plan k → GoesAlong (Err f) task plan
  stopped-before (Wide j) u = subst (λ (ps : Course). IsFirstUndefined wide_limit ps j) (sym course-last) (first-put (course_before task plan k) k (effects_at task plan k ++ move_at task plan k) j u)
  stopped-before Memory u = tt

pub cost-stopped : (task : TaskParts) (plan : Plan) (f : MeaningFault) → GoesAlong (Err f) task plan → Costs (Err f) task plan
cost-stopped task plan (Wide j) u = first-put (course_before task plan (count task plan)) (count task plan) (cost_reckoned task plan) j u
cost-stopped task plan Memory u = tt

pub cost-given : (task : TaskParts) (plan : Plan) (c : ℚ) → AllDefined wide_limit (course_before task plan (count task plan)) → Defined (cost_reckoned task plan) × (c ≡ cost task plan) → Costs (Ok c) task plan
cost-given task plan c h d = (all-put (course_before task plan (count task plan)) (count task plan) (cost_reckoned task plan) h d.0, d.1)

pub cost-wide : (task : TaskParts) (plan : Plan) (n : ℕ) → n ≡ count task plan → AllDefined wide_limit (course_before task plan (count task plan)) → ¬ (Defined (cost_reckoned task plan)) → Costs (Err (Wide n)) task plan
cost-wide task plan n e h d = subst (λ (i : ℕ). IsFirstUndefined wide_limit (course_of_cost task plan) i) (sym e) (stop-put (course_before task plan (count task plan)) (count task plan) (cost_reckoned task plan) h d)
