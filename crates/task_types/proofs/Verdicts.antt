-- A plan is valid, or it has one first reason.
use Rattle.std.proofs.Common.{◌≡◌, refl, ℕ, suc, ◌<◌, Bool, true, false, List, [], ◌∷◌, ◌++◌, length, map, arith, inl, inr}
use Rattle.std.specs.Prelude.{◌⊎◌, IsTrue, slice_index_or}
use Rattle.std.specs.List.{AllByRecursion, enumerate_from}
use Rattle.rational.specs.Rational.{ℚ}
use Rattle.rational.specs.Rational.{zeroℚ}
use Rattle.basics.specs.Duties.{Duty, duty, AllMet, AllDecided}
use Rattle.basics.proofs.Duties.{met_or_first_unmet, AllMet-no_first, AllDecided-append}
use Rattle.task_types.specs.declared.parts.TaskParts.{TaskParts}
use Rattle.task_types.specs.declared.conditions.Condition.{Condition}
use Rattle.task_types.specs.declared.plans.PlanLine.{PlanLine}
use Rattle.task_types.specs.declared.parts.Rules.{Rules}
use Rattle.task_types.specs.State.{holds}
use Rattle.task_types.specs.Plan.{Plan, IsFormed, action_of, line_steps, timed_steps, happenings}
use Rattle.task_types.specs.Course.{time_of, count, state_after, state_before, last_state}
use Rattle.task_types.specs.Trace.{trace, met}
use Rattle.task_types.specs.declared.plans.Reason.{Reason}
use Rattle.task_types.specs.declared.plans.Reason.TheVariants as reason
use Rattle.task_types.specs.Valid.{Valid, duties, clash_duties, line_over_alls, over_alls, segments, HoldsWithin, IsFirstReason, is_in_time, has_fit_duration, can_start, can_end, all_apart, each_apart}
use Rattle.task_types.proofs.Segment.{segment}
use Rattle.task_types.proofs.Duties.{valid-duties}

abbrev Decided : Type 0 → Type 0
Decided P = P ⊎ (P → ⊥)

of_test : (b : Bool) → Decided (IsTrue b)
of_test true = inl refl
of_test false = inr (λ e. cc)

decided_map : {X : Type 0} (r : X → Reason) (p : X → Bool) (xs : List X) → AllDecided (map (λ x. duty (r x) (p x)) xs)
decided_map r p [] = tt
decided_map r p (x ∷ xs) = (of_test (p x), decided_map r p xs)

decided_clashes : (task : TaskParts) (rules : Rules) (plan : Plan) → AllDecided (clash_duties task rules plan)
decided_clashes task rules [] = tt
decided_clashes task rules (l ∷ ls) =
    let firsts = duty (reason.Clash l.line l.line) (each_apart task rules (line_steps task l)) ∷ map (λ m. duty (reason.Clash l.line m.line) (all_apart task rules (line_steps task l) (line_steps task m))) ls in
    let seconds = map (λ s. duty (reason.ClashTimed l.line s.time) (all_apart task rules (line_steps task l) (s ∷ []))) (timed_steps task) in
    AllDecided-append (firsts ++ seconds) (clash_duties task rules ls) (AllDecided-append firsts seconds
    (of_test (each_apart task rules (line_steps task l)), decided_map (λ m. reason.Clash l.line m.line) (λ m. all_apart task rules (line_steps task l) (line_steps task m)) ls)
    (decided_map (λ s. reason.ClashTimed l.line s.time) (λ s. all_apart task rules (line_steps task l) (s ∷ [])) (timed_steps task))) (decided_clashes task rules ls)

-- a segment's condition is decided by its two ends
decided_segment : (task : TaskParts) (plan : Plan) (k : ℕ) (c : Condition) → suc k < count task plan → IsFormed task plan → Decided (HoldsWithin task plan c (time_of task plan k) (time_of task plan (suc k)))
decided_segment task plan k c h formed = go (of_test (holds c (state_after task plan k))) (of_test (holds c (state_before task plan (suc k))))
  where
    go : Decided (IsTrue (holds c (state_after task plan k))) → Decided (IsTrue (holds c (state_before task plan (suc k)))) → Decided (HoldsWithin task plan c (time_of task plan k) (time_of task plan (suc k)))
    go (inl a) (inl b) = inl ((segment task plan k c h formed).1 (a, b))
    go (inl a) (inr b) = inr (λ f. b ((segment task plan k c h formed).0 f).1)
    go (inr a) b = inr (λ f. a ((segment task plan k c h formed).0 f).0)

each_segment : (P : ℚ × ℚ → Type 0) (ts : List ℚ) → ((k : ℕ) → suc k < length ts → P (slice_index_or ts k zeroℚ, slice_index_or ts (suc k) zeroℚ)) → AllByRecursion P (segments ts)
each_segment P [] f = tt
each_segment P (t ∷ []) f = tt
each_segment P (t ∷ u ∷ us) f = (f 0 (omega arith), each_segment P (u ∷ us) (λ k h. f (suc k) (omega arith)))

decided_each : (d : ℚ × ℚ → Duty Reason) (gs : List (ℚ × ℚ)) → AllByRecursion (λ g. Decided (d g).Met) gs → AllDecided (map d gs)
decided_each d [] h = tt
decided_each d (g ∷ gs) h = (h.0, decided_each d gs h.1)

under_test : (b : Bool) (P : Type 0) → Decided P → Decided (IsTrue b → P)
under_test true P (inl p) = inl (λ _. p)
under_test true P (inr n) = inr (λ f. n (f refl))
under_test false P d = inl (λ e. absurd (elim_false e))
  where
    elim_false : false ≡ true → ⊥
    elim_false e = cc

decided_over_alls : (task : TaskParts) (plan : Plan) (ls : List PlanLine) → IsFormed task plan → AllDecided (over_alls task plan ls)
decided_over_alls task plan [] formed = tt
decided_over_alls task plan (l ∷ ls) formed = AllDecided-append (line_over_alls task plan l) (over_alls task plan ls)
    (decided_each _ (segments (happenings task plan)) (each_segment _ (happenings task plan) (λ k h. under_test _ _ (decided_segment task plan k (action_of task l.action).over_all h formed))))
    (decided_over_alls task plan ls formed)

decided_duties : (task : TaskParts) (rules : Rules) (plan : Plan) → IsFormed task plan → AllDecided (duties task rules plan)
unfolding duties
decided_duties task rules plan formed =
    AllDecided-append _ _ (AllDecided-append _ _ (AllDecided-append _ _ (AllDecided-append _ _ (AllDecided-append _ _ (AllDecided-append _ _ (AllDecided-append _ _
    (decided_map (λ l. reason.Time l.line) (is_in_time rules) plan)
    (decided_map (λ l. reason.Duration l.line) (has_fit_duration task rules plan) plan))
    (decided_clashes task rules plan))
    (decided_map (λ l. reason.Start l.line) (can_start task plan) plan))
    (decided_map (λ l. reason.End l.line) (can_end task plan) plan))
    (decided_over_alls task plan plan formed))
    (of_test (holds task.goal (last_state task plan)), tt))
    (decided_map (λ c. reason.Constraint c.0) (λ c. met c.1 (trace task plan)) (enumerate_from 1 task.hard))

-- a plan is valid or has a first reason, and never both
pub valid_or_reason : (task : TaskParts) (rules : Rules) (plan : Plan) → IsFormed task plan → Valid task rules plan ⊎ ((r : Reason) × IsFirstReason task rules plan r)
valid_or_reason task rules plan formed = go (met_or_first_unmet (duties task rules plan) (decided_duties task rules plan formed))
  where
    go : AllMet (duties task rules plan) ⊎ ((r : Reason) × IsFirstReason task rules plan r) → Valid task rules plan ⊎ ((r : Reason) × IsFirstReason task rules plan r)
    go (inl m) = inl ((valid-duties task rules plan formed).1 m)
    go (inr h) = inr h

pub valid-no_reason : (task : TaskParts) (rules : Rules) (plan : Plan) → Valid task rules plan → (r : Reason) → IsFirstReason task rules plan r → ⊥
valid-no_reason task rules plan v r h = AllMet-no_first (duties task rules plan) r ((valid-duties task rules plan v.formed).0 v) h
