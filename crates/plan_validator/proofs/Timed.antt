-- Timed steps pass every test that is asked of the steps of lines.
use Rattle.std.proofs.Common.{◌≡◌, refl, sym, ap, subst, ◌∙◌, ℕ, ◌+◌, true, ◌&&◌, List, [], ◌∷◌}
use Rattle.std.specs.List.{AllByRecursion, list_all, flat_map}
use Rattle.std.specs.Prelude.{is_none}
use Rattle.rational.specs.Rational.{ℚ}
use Rattle.basics.proofs.Bools.{and_left, and_right}
use Rattle.basics.proofs.Naturals.{same_out}
use Rattle.task_types.specs.declared.actions.SnapKind.{SnapKind}
use Rattle.task_types.specs.declared.actions.SnapKind.TheVariants.{Start, End, Instant, Timed}
use Rattle.task_types.specs.declared.parts.Rules.{Rules}
use Rattle.task_types.specs.declared.parts.TaskParts.{TaskParts}
use Rattle.task_types.specs.State.{holds}
use Rattle.task_types.specs.Plan.{Plan, snap_of, no_snap}
use Rattle.task_types.specs.Course.{before}
use Rattle.task_types.specs.Clash.{own_action}
use Rattle.task_types.specs.Touch.{is_timed}
use Rattle.task_types.specs.WellMade.{IsWellMade, are_timed}
use Rattle.task_types.proofs.Assigning.{at_read}
use Rattle.task_types.proofs.SnapTests.{timed_out}
use Rattle.timed_meaning.specs.Told.{timed_step}
use Rattle.plan_validator.specs.Readings.{bound_read, is_long, as_start, as_end}
use Rattle.plan_validator.specs.Watching.{fits_test, start_test, end_test}
use Rattle.plan_validator.proofs.Lines.{all-true}

module _ (task : TaskParts) where
  kinds : (n : ℕ) (ts : List (ℚ × ℕ)) → are_timed task n ts ≡ true → AllByRecursion (λ t. (snap_of task t.1).kind ≡ Timed) ts
  kinds n [] h = tt
  kinds n (t ∷ ts) h = (
    timed_out (snap_of task t.1).kind (subst (λ (m : ℕ). is_timed (snap_of task m).kind ≡ true) (sym (same_out t.1 n (and_left _ _ (and_left _ _ h))))
        (and_left _ _ (at_read (λ s. is_timed s.kind && is_none s.action) no_snap task.snaps n (and_right _ _ (and_left _ _ h))))),
    kinds (n + 1) ts (and_right _ _ h),
  )

  module _ (w : IsWellMade task) (rules : Rules) (plan : Plan) where
    all_timed : AllByRecursion (λ t. (snap_of task t.1).kind ≡ Timed) task.timed
    all_timed = kinds _ task.timed (and_right _ _ (and_left _ _ w.timed))

    each : (P : ℚ × ℕ → Type 0) → ((t : ℚ × ℕ) → (snap_of task t.1).kind ≡ Timed → P t) → (ts : List (ℚ × ℕ)) → AllByRecursion (λ t. (snap_of task t.1).kind ≡ Timed) ts → AllByRecursion P ts
    each P f [] h = tt
    each P f (t ∷ ts) h = (f t h.0, each P f ts h.1)

    pub timed-fit : AllByRecursion (λ t. fits_test task rules plan (timed_step t) ≡ true) task.timed
    timed-fit = each (λ t. fits_test task rules plan (timed_step t) ≡ true) (λ t k. ap (λ n. is_long n rules (timed_step t).duration && list_all (bound_read n (before task plan t.0) (timed_step t).duration) (flat_map (λ a. a.bounds) (own_action task (snap_of task t.1)))) k
        ∙ all-true (bound_read Timed (before task plan t.0) (timed_step t).duration) (λ b. refl) (flat_map (λ a. a.bounds) (own_action task (snap_of task t.1)))) task.timed all_timed

    pub timed-start : AllByRecursion (λ t. start_test task plan (timed_step t) ≡ true) task.timed
    timed-start = each (λ t. start_test task plan (timed_step t) ≡ true) (λ t k. ap (λ n. as_start n (holds (snap_of task t.1).condition (before task plan t.0))) k) task.timed all_timed

    pub timed-end : AllByRecursion (λ t. end_test task plan (timed_step t) ≡ true) task.timed
    timed-end = each (λ t. end_test task plan (timed_step t) ≡ true) (λ t k. ap (λ n. as_end n (holds (snap_of task t.1).condition (before task plan t.0))) k) task.timed all_timed
