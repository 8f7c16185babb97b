-- The tests of a line's steps are those of the line: its duration, its start and its end.
use Rattle.std.proofs.Common.{◌≡◌, refl, sym, ap, ◌∙◌, ℕ, Bool, true, false, not, ◌&&◌, if◌then◌else◌, List, [], ◌∷◌, length, map, Option, Some, None}
use Rattle.std.specs.Prelude.{◌↔◌, option_to_list, unwrap_or, nat_lt, is_some, is_none}
use Rattle.std.specs.List.{AllByRecursion, list_all, flat_map}
use Rattle.std.proofs.lemmas.List.{append-nil}
use Rattle.std.proofs.Math.Bool.{and-true}
use Rattle.rational.specs.Rational.{ℚ, zeroℚ}
use Rattle.basics.proofs.Bools.{and_right}
use Rattle.task_types.specs.declared.actions.Action.{Action}
use Rattle.task_types.specs.declared.actions.Bound.{Bound}
use Rattle.task_types.specs.declared.actions.Snap.{Snap}
use Rattle.task_types.specs.declared.actions.SnapKind.TheVariants.{Start, End, Instant}
use Rattle.task_types.specs.declared.parts.Rules.{Rules}
use Rattle.task_types.specs.declared.parts.TaskParts.{TaskParts}
use Rattle.task_types.specs.declared.plans.PlanLine.{PlanLine}
use Rattle.task_types.specs.Tests.{◌≤?◌, ◌⇒◌}
use Rattle.task_types.specs.State.{State, value, holds}
use Rattle.task_types.specs.Plan.{Plan, Step, is_formed, action_of, snap_of, duration_of, end_of, end_step, line_steps}
use Rattle.task_types.specs.Course.{before}
use Rattle.task_types.specs.Clash.{own_action}
use Rattle.task_types.specs.Valid.{meets_bound, duration_fits, has_fit_duration, can_start, end_holds, can_end}
use Rattle.plan_validator.specs.Readings.{bound_read, is_long, fits_at, as_start, as_end}
use Rattle.plan_validator.proofs.Choosing.{chosen_in, chosen_out}
use Rattle.plan_validator.proofs.Snaps.{HasSnaps, durative, at_once}

-- ---- small laws of tests

all-both : {X : Type 0} (p q r : X → Bool) → ((x : X) → p x ≡ (q x && r x)) → (xs : List X) → list_all p xs ≡ (list_all q xs && list_all r xs)
all-both p q r h [] = refl
all-both p q r h (x ∷ xs) = rw (h x, all-both p q r h xs) (go (q x) (r x) (list_all q xs) (list_all r xs))
  where
    go : (a b c d : Bool) → ((a && b) && (c && d)) ≡ ((a && c) && (b && d))
    go true true c d = refl
    go true false true d = refl
    go true false false d = refl
    go false b c d = refl

pub all-true : {X : Type 0} (p : X → Bool) → ((x : X) → p x ≡ true) → (xs : List X) → list_all p xs ≡ true
all-true p h [] = refl
all-true p h (x ∷ xs) = rw (h x) (all-true p h xs)

-- a test of a line that all its steps pass together
pub by-steps : {X : Type 0} (step_test : X → Bool) (steps : List X) (b : Bool) → b ≡ list_all step_test steps → (A : Type 0) → AllByRecursion (λ s. A → step_test s ≡ true) steps ↔ (A → b ≡ true)
by-steps step_test steps b e A = ((λ h a. e ∙ chosen_out A step_test steps h a), λ h. chosen_in A step_test steps (λ a. sym e ∙ h a))

-- ---- the tests of steps, each in the state before its time

module _ (task : TaskParts) (rules : Rules) (plan : Plan) where
  abbrev pub state_at : ℚ → State
  state_at t = before task plan t

  abbrev pub fits_test : Step → Bool
  fits_test s = fits_at task rules (state_at s.time) s

  abbrev pub start_test : Step → Bool
  start_test s = as_start (snap_of task s.snap).kind (holds (snap_of task s.snap).condition (state_at s.time))

  abbrev pub end_test : Step → Bool
  end_test s = as_end (snap_of task s.snap).kind (holds (snap_of task s.snap).condition (state_at s.time))

  module _ (l : PlanLine) where
    abbrev action : Action
    action = action_of task l.action

    abbrev first : Step
    first = record { time = l.at; snap = action.start; duration = duration_of l }

    abbrev last : ℕ → Step
    last e = record { time = end_of l; snap = e; duration = duration_of l }

    steps-are : (o : Option ℕ) → action.end ≡ o → line_steps task l ≡ first ∷ end_step l o
    steps-are o e = ap (λ o. first ∷ end_step l o) e

    bounds-are : (s : Snap) → s.action ≡ Some l.action → flat_map (λ a. a.bounds) (own_action task s) ≡ action.bounds
    bounds-are s e = ap (λ o. flat_map (λ a. a.bounds) (map (action_of task) (option_to_list o))) e ∙ append-nil action.bounds

    split_bound : (d : ℚ) (b : Bound) → meets_bound task plan l d b ≡ (bound_read Start (state_at l.at) d b && bound_read End (state_at (end_of l)) d b)
    split_bound d b = go b.at_end
      where
        test : ℚ → Bool
        test v = if b.at_least then (v ≤? d) else (d ≤? v)

        go : (c : Bool) → test (value b.form (before task plan (if c then end_of l else l.at)).fluents) ≡ ((not c ⇒ test (value b.form (before task plan l.at).fluents)) && (c ⇒ test (value b.form (before task plan (end_of l)).fluents)))
        go true = refl
        go false = sym (and-true (test (value b.form (before task plan l.at).fluents)))

    -- ---- durations

    fits_first : (snap_of task action.start).kind ≡ Start → (snap_of task action.start).action ≡ Some l.action → (d : ℚ) → duration_of l ≡ d → fits_test first ≡ ((rules.epsilon ≤? d) && list_all (bound_read Start (state_at l.at) d) action.bounds)
    fits_first k a d e = ap (λ n. is_long n rules (duration_of l) && list_all (bound_read n (state_at l.at) (duration_of l)) (flat_map (λ a. a.bounds) (own_action task (snap_of task action.start)))) k
        ∙ ap (λ bs. (rules.epsilon ≤? duration_of l) && list_all (bound_read Start (state_at l.at) (duration_of l)) bs) (bounds-are (snap_of task action.start) a)
        ∙ ap (λ x. (rules.epsilon ≤? x) && list_all (bound_read Start (state_at l.at) x) action.bounds) e

    fits_last : (m : ℕ) → (snap_of task m).kind ≡ End → (snap_of task m).action ≡ Some l.action → (d : ℚ) → duration_of l ≡ d → fits_test (last m) ≡ list_all (bound_read End (state_at (end_of l)) d) action.bounds
    fits_last m k a d e = ap (λ n. is_long n rules (duration_of l) && list_all (bound_read n (state_at (end_of l)) (duration_of l)) (flat_map (λ a. a.bounds) (own_action task (snap_of task m)))) k
        ∙ ap (λ bs. list_all (bound_read End (state_at (end_of l)) (duration_of l)) bs) (bounds-are (snap_of task m) a)
        ∙ ap (λ x. list_all (bound_read End (state_at (end_of l)) x) action.bounds) e

    fits_once : (snap_of task action.start).kind ≡ Instant → fits_test first ≡ true
    fits_once k = ap (λ n. is_long n rules (duration_of l) && list_all (bound_read n (state_at l.at) (duration_of l)) (flat_map (λ a. a.bounds) (own_action task (snap_of task action.start)))) k
        ∙ all-true (bound_read Instant (state_at l.at) (duration_of l)) (λ b. refl) (flat_map (λ a. a.bounds) (own_action task (snap_of task action.start)))

    formed_some : (e : ℕ) → action.end ≡ Some e → is_formed task l ≡ true → is_some l.duration ≡ true
    formed_some e h f = and_right _ _ (ap (λ o. nat_lt l.action (length task.actions) && (if is_some o then is_some l.duration else is_none l.duration)) (sym h) ∙ f)

    formed_none : action.end ≡ None → is_formed task l ≡ true → is_none l.duration ≡ true
    formed_none h f = and_right _ _ (ap (λ o. nat_lt l.action (length task.actions) && (if is_some o then is_some l.duration else is_none l.duration)) (sym h) ∙ f)

    durations-of : (e : ℕ) → action.end ≡ Some e → (snap_of task action.start).kind ≡ Start → (snap_of task action.start).action ≡ Some l.action → (snap_of task e).kind ≡ End → (snap_of task e).action ≡ Some l.action
        → (o : Option ℚ) → l.duration ≡ o → is_some o ≡ true → duration_fits task rules plan l o ≡ (fits_test first && (fits_test (last e) && true))
    durations-of e h k a m b None q s = cc
    durations-of e h k a m b (Some d) q s = ap (λ x. (rules.epsilon ≤? d) && x) (all-both (meets_bound task plan l d) (bound_read Start (state_at l.at) d) (bound_read End (state_at (end_of l)) d) (split_bound d) action.bounds)
        ∙ go (rules.epsilon ≤? d) (list_all (bound_read Start (state_at l.at) d) action.bounds) (list_all (bound_read End (state_at (end_of l)) d) action.bounds)
        ∙ sym (ap (λ x. x && (fits_test (last e) && true)) (fits_first k a d d_is) ∙ ap (λ x. ((rules.epsilon ≤? d) && list_all (bound_read Start (state_at l.at) d) action.bounds) && (x && true)) (fits_last e m b d d_is))
      where
        d_is : duration_of l ≡ d
        d_is = ap (λ o. unwrap_or o zeroℚ) q

        go : (x y z : Bool) → (x && (y && z)) ≡ ((x && y) && (z && true))
        go true true z = sym (and-true z)
        go true false z = refl
        go false y z = refl

    durations-once : (o : Option ℚ) → is_none o ≡ true → duration_fits task rules plan l o ≡ true
    durations-once None s = refl
    durations-once (Some d) s = cc

    pub durations-by_steps : HasSnaps task l.action → is_formed task l ≡ true → has_fit_duration task rules plan l ≡ list_all fits_test (line_steps task l)
    durations-by_steps (durative e h k a m b) f = durations-of e h k a m b l.duration refl (formed_some e h f) ∙ sym (ap (list_all fits_test) (steps-are (Some e) h))
    durations-by_steps (at_once h k) f = durations-once l.duration (formed_none h f) ∙ sym (ap (list_all fits_test) (steps-are None h) ∙ ap (λ b. b && true) (fits_once k))

    -- ---- starts and ends

    pub starts-by_steps : HasSnaps task l.action → can_start task plan l ≡ list_all start_test (line_steps task l)
    starts-by_steps (durative e h k a m b) = sym (ap (list_all start_test) (steps-are (Some e) h)
        ∙ ap (λ n. as_start n (can_start task plan l) && (start_test (last e) && true)) k ∙ ap (λ n. can_start task plan l && (as_start n (holds (snap_of task e).condition (state_at (end_of l))) && true)) m ∙ and-true (can_start task plan l))
    starts-by_steps (at_once h k) = sym (ap (list_all start_test) (steps-are None h) ∙ ap (λ n. as_start n (can_start task plan l) && true) k ∙ and-true (can_start task plan l))

    pub ends-by_steps : HasSnaps task l.action → can_end task plan l ≡ list_all end_test (line_steps task l)
    ends-by_steps (durative e h k a m b) = ap (end_holds task plan l) h ∙ sym (ap (list_all end_test) (steps-are (Some e) h)
        ∙ ap (λ n. as_end n (can_start task plan l) && (end_test (last e) && true)) k ∙ ap (λ n. as_end n (holds (snap_of task e).condition (state_at (end_of l))) && true) m ∙ and-true (holds (snap_of task e).condition (state_at (end_of l))))
    ends-by_steps (at_once h k) = ap (end_holds task plan l) h ∙ sym (ap (list_all end_test) (steps-are None h) ∙ ap (λ n. as_end n (can_start task plan l) && true) k)
