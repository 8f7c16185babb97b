-- The steps of a closed ordering at times that agree with it tell of its timed plan.
use Rattle.std.proofs.Common.{◌≡◌, refl, sym, ap, subst, ◌∙◌, ℕ, zero, suc, ◌+◌, true, not, ◌&&◌, ◌==◌, List, [], ◌∷◌, ◌++◌, map, length, take, drop, arith, inl, inr, Some, None}
use Rattle.std.specs.Prelude.{◌⊎◌, IsPermutation, slice_index, is_none, IsTrue}
use Rattle.std.specs.List.{list_all, filter, flat_map, zip, AllByRecursion}
use Rattle.std.proofs.lemmas.List.Sorted.{IsPermutation-trans, IsPermutation-append_left}
use Rattle.rational.specs.Rational.{ℚ, zeroℚ, ◌≤ℚ◌}
use Rattle.basics.proofs.Bools.{and_left, and_right}
use Rattle.basics.proofs.Naturals.{same_out}
use Rattle.basics.proofs.Lists.{each_left}
use Rattle.task_types.specs.declared.actions.SnapKind.TheVariants.{Timed}
use Rattle.task_types.specs.declared.parts.Rules.{Rules}
use Rattle.task_types.specs.declared.parts.TaskParts.{TaskParts}
use Rattle.task_types.specs.declared.plans.PlanLine.{PlanLine}
use Rattle.task_types.specs.Plan.{no_snap, action_of, snap_of, duration_of, end_of, end_step, line_steps, plan_steps, timed_steps, steps}
use Rattle.task_types.specs.Touch.{is_timed}
use Rattle.task_types.specs.Trace.{at}
use Rattle.task_types.specs.Order.{Order, IsClosedOrdering, is_built, is_closed, may_follow, running, timed_count}
use Rattle.task_types.specs.Agreement.{agree, are_linked, is_placed, begun_lines, numbered, plan_of}
use Rattle.task_types.specs.Valid.{ArePositive}
use Rattle.task_types.specs.WellMade.{IsWellMade, is_short, snap_fits, are_timed, snap_total}
use Rattle.task_types.proofs.Assigning.{snap_of_fits, at_read}
use Rattle.task_types.proofs.Everyone.{all_both, all_of_flat_map}
use Rattle.task_types.proofs.Formed.{IsOwned, timed, started, ended, at_once, snap-owned}
use Rattle.task_types.proofs.Segment.{Outside}
use Rattle.task_types.proofs.Traces.{every_out}
use Rattle.ordering.specs.Along.{AllAgree, AreInOrder}
use Rattle.ordering.specs.Laws.{Tells}
use Rattle.ordering.proofs.Tied.{all_agree}
use Rattle.ordered_course.specs.Lines.{steps_listed, steps_of}
use Rattle.ordered_course.proofs.Listed.{Closes}
use Rattle.ordered_course.proofs.Closing.{HaveActions, closes}
use Rattle.ordered_course.proofs.InOrder.{in_order}
use Rattle.ordered_course.proofs.Lasting.{IsSound, begun_sound, numbered_lines_sound}
use Rattle.ordered_course.proofs.Lines.{closed_listed}
use Rattle.ordered_course.proofs.Owned.{are_owned}
use Rattle.ordered_course.proofs.PlanRates.{IsDurative, IsInstant, plan_rates}
use Rattle.ordered_course.proofs.Splitting.{split, of_moment, plan_listed-is}
use Rattle.task_types.proofs.SnapTests.{timed_out}
use Rattle.task_types.proofs.StepCounts.{unnumbered_steps, none_run}
use Rattle.ordered_course.proofs.TimedSteps.{Follow, timed_from}

-- ---- what a well made task and a closed ordering say

pub have_actions : (task : TaskParts) → IsWellMade task → HaveActions task
have_actions task w s e = go (snap-owned task w s)
  where
    clash : (a : ℕ) → (snap_of task s).action ≡ Some a → ⊥
    clash a f = let c : None ≡ Some a = sym e ∙ f in cc

    go : IsOwned task (snap_of task s) → (snap_of task s).kind ≡ Timed
    go (timed k) = k
    go (started a k f l d) = absurd (clash a f)
    go (ended a k f l d) = absurd (clash a f)
    go (at_once a k f l d) = absurd (clash a f)

pub follow : (task : TaskParts) (o : Order) → IsTrue (is_built task o) → Follow task o.steps
unfolding is_built
follow task o h = every_out (length o.steps) (λ k. may_follow task (take k o.steps) (slice_index o.steps k) (snap_of task (slice_index o.steps k)).kind) (and_left _ _ (and_left _ _ h))

-- what a closed list says
pub record Closed (task : TaskParts) (o : Order) : Type 0 where
  pub nothing_runs : running task o.steps ≡ []
  pub all_timed : timed_count task o.steps ≡ length task.timed

pub closed_so : (task : TaskParts) (o : Order) → IsTrue (is_closed task o) → Closed task o
unfolding is_closed
closed_so task o h = record { nothing_runs = none_run (running task o.steps) (and_left _ _ h); all_timed = same_out _ _ (and_right _ _ h) }

-- what times that agree say
pub record Placed (task : TaskParts) (rules : Rules) (o : Order) (times : List ℚ) : Type 0 where
  pub lengths : length times ≡ length o.steps
  pub linked : are_linked task rules (zip o.steps times) ≡ true
  pub placed : list_all (λ p. is_placed task rules p.0 p.1) (zip o.steps times) ≡ true

pub placed_so : (task : TaskParts) (rules : Rules) (o : Order) (times : List ℚ) → IsTrue (agree task rules o times) → Placed task rules o times
unfolding agree
placed_so task rules o times h = record { lengths = same_out _ _ (and_left _ _ (and_left _ _ (and_left _ _ h))); linked = and_right _ _ (and_left _ _ (and_left _ _ h)); placed = and_right _ _ h }

-- the timed steps of a task are timed
pub timed_kinds : (task : TaskParts) (us : List (ℚ × ℕ)) (n : ℕ) → are_timed task n us ≡ true → AllByRecursion (λ u. (snap_of task u.1).kind ≡ Timed) us
timed_kinds task [] n h = tt
timed_kinds task (u ∷ us) n h = (ap (λ m. (snap_of task m).kind) (same_out u.1 n (and_left _ _ (and_left _ _ h))) ∙ timed_out (snap_of task n).kind here, timed_kinds task us (n + 1) (and_right _ _ h))
  where
    here : is_timed (snap_of task n).kind ≡ true
    here = and_left (is_timed (snap_of task n).kind) (is_none (snap_of task n).action) (at_read (λ s. is_timed s.kind && is_none s.action) no_snap task.snaps n (and_right (u.1 == n) (at task.snaps n (λ s. is_timed s.kind && is_none s.action)) (and_left (u.1 == n && at task.snaps n (λ s. is_timed s.kind && is_none s.action)) (are_timed task (n + 1) us) h)))

-- ---- the steps of the plan

whole : {X : Type 0} (xs : List X) (n : ℕ) → n ≡ length xs → take n (drop 0 xs) ≡ xs
whole [] zero e = refl
whole [] (suc n) e = let c : suc n ≡ 0 = e in refl
whole (x ∷ xs) zero e = absurd (omega (arith, e))
whole (x ∷ xs) (suc n) e = ap (λ l. x ∷ l) (whole xs n (omega (arith, e)))

module _ (task : TaskParts) (rules : Rules) (o : Order) (times : List ℚ) (w : IsWellMade task) (ordering : IsClosedOrdering task o) (h : Placed task rules o times) where
  abbrev none_started : ℕ → ℚ
  none_started a = zeroℚ

  pub numbers_timed : are_timed task (snap_total task.actions) task.timed ≡ true
  numbers_timed = and_right _ _ (and_left _ _ w.timed)

  follows_all : Follow task ([] ++ o.steps)
  follows_all = follow task o ordering.built

  pub closes_all : Closes task [] (zip o.steps times)
  closes_all = closes task (have_actions task w) [] o.steps times h.lengths follows_all (closed_so task o ordering.closed).nothing_runs

  timed_ones : filter (of_moment task) (steps_listed task none_started (zip o.steps times)) ≡ timed_steps task
  timed_ones = timed_from task rules (snap_total task.actions) numbers_timed [] o.steps times none_started h.lengths follows_all h.placed
      ∙ ap (map (λ (u : ℚ × ℕ). record { time = u.0; snap = u.1; duration = zeroℚ })) (whole task.timed (timed_count task o.steps) (closed_so task o ordering.closed).all_timed)

  pub same_steps : IsPermutation (steps task (plan_of task o times)) (steps_of task o times)
  unfolding plan_of steps_of
  same_steps = IsPermutation-trans (plan_steps task (numbered 1 (begun_lines task (zip o.steps times))) ++ timed_steps task)
      (filter (λ s. not (of_moment task s)) (steps_listed task none_started (zip o.steps times)) ++ filter (of_moment task) (steps_listed task none_started (zip o.steps times)))
      (steps_listed task none_started (zip o.steps times))
      (subst (λ ys. IsPermutation (plan_steps task (numbered 1 (begun_lines task (zip o.steps times))) ++ timed_steps task) (filter (λ s. not (of_moment task s)) (steps_listed task none_started (zip o.steps times)) ++ ys)) (sym timed_ones)
      (IsPermutation-append_left (timed_steps task) (plan_steps task (numbered 1 (begun_lines task (zip o.steps times)))) (filter (λ s. not (of_moment task s)) (steps_listed task none_started (zip o.steps times)))
      (subst (λ xs. IsPermutation xs (filter (λ s. not (of_moment task s)) (steps_listed task none_started (zip o.steps times)))) (sym (unnumbered_steps task 1 (begun_lines task (zip o.steps times))))
      (subst (λ ys. IsPermutation (flat_map (line_steps task) (begun_lines task (zip o.steps times))) ys) (plan_listed-is task (have_actions task w) (zip o.steps times) none_started)
      (closed_listed task (are_owned task w) (zip o.steps times) none_started closes_all)))))
      (split (of_moment task) (steps_listed task none_started (zip o.steps times)))

  module _ (positive : ArePositive rules) where
    pub sound : AllByRecursion (IsSound task (are_owned task w) (have_actions task w)) (plan_of task o times)
    unfolding plan_of
    sound = numbered_lines_sound task (are_owned task w) (have_actions task w) 1 (begun_lines task (zip o.steps times))
        (begun_sound task (are_owned task w) (have_actions task w) (zip o.steps times) none_started [] closes_all
        (in_order task rules positive.epsilon (snap_total task.actions) numbers_timed (and_right _ _ w.timed) [] o.steps times none_started h.lengths follows_all h.placed h.linked))

    -- the end of a durative line is one of its steps
    ends_outside : (from to : ℚ) (l : PlanLine) → IsSound task (are_owned task w) (have_actions task w) l → AllByRecursion (λ s. (s.time ≤ℚ from) ⊎ (to ≤ℚ s.time)) (line_steps task l) → (IsDurative task l × Outside from to (end_of l)) ⊎ IsInstant task l
    ends_outside from to l (inl d) a = inl (d, last a)
      where
        last : AllByRecursion (λ s. (s.time ≤ℚ from) ⊎ (to ≤ℚ s.time)) (line_steps task l) → Outside from to (end_of l)
        last a = (subst (λ o. AllByRecursion (λ s. (s.time ≤ℚ from) ⊎ (to ≤ℚ s.time)) (record { time = l.at; snap = (action_of task l.action).start; duration = duration_of l } ∷ end_step l o)) d.has_end a).1.0
    ends_outside from to l (inr d) a = inr d

    pub steps_in_order : AreInOrder task (steps_of task o times)
    unfolding steps_of
    steps_in_order = in_order task rules positive.epsilon (snap_total task.actions) numbers_timed (and_right _ _ w.timed) [] o.steps times none_started h.lengths follows_all h.placed h.linked

    ordered : AllAgree task (steps_of task o times)
    ordered = all_agree task (snap_of_fits task (and_right (is_short task.snaps) (list_all (snap_fits task) task.snaps) w.snaps)) (steps_of task o times) steps_in_order

    pub tells : Tells task (plan_of task o times) (steps_of task o times)
    tells = record {
      same = same_steps;
      agree = ordered;
      distinct = λ s. and_right _ _ (and_left _ _ (and_left _ _ (and_left _ _ (and_left _ _ (snap_of_fits task (and_right (is_short task.snaps) (list_all (snap_fits task) task.snaps) w.snaps) s.snap)))));
      rates = λ from t f gap out. plan_rates task (plan_of task o times) (steps_of task o times) from t f same_steps gap
          (all_both (IsSound task (are_owned task w) (have_actions task w)) (λ l. AllByRecursion (λ s. (s.time ≤ℚ from) ⊎ (t ≤ℚ s.time)) (line_steps task l)) (λ l. (IsDurative task l × Outside from t (end_of l)) ⊎ IsInstant task l) (plan_of task o times) (λ l. ends_outside from t l) sound
          (all_of_flat_map (λ s. (s.time ≤ℚ from) ⊎ (t ≤ℚ s.time)) (line_steps task) (plan_of task o times) (each_left (λ s. (s.time ≤ℚ from) ⊎ (t ≤ℚ s.time)) (plan_steps task (plan_of task o times)) (timed_steps task) out)))
          (timed_kinds task task.timed (snap_total task.actions) numbers_timed);
    }
