-- What an ordering is asked along its list, each literal and each hard constraint, is so where it has valid times.
use Rattle.std.proofs.Common.{◌≡◌, refl, sym, ap, subst, ◌∙◌, ℕ, zero, suc, ◌+◌, ◌<◌, Bool, true, false, not, ◌&&◌, ◌||◌, ◌==◌, List, [], ◌∷◌, ◌++◌, map, length, take, drop, arith, inl, inr, Option, Some, None}
use Rattle.std.specs.Prelude.{slice_index, slice_index_or}
use Rattle.std.specs.List.{list_all, list_any, flat_map, zip, enumerate_from, AllByRecursion}
use Rattle.std.specs.Option.{option_map}
use Rattle.std.proofs.Math.ListN.{get_or-map}
use Rattle.std.proofs.lemmas.List.{take-map, take-append-drop, length-map}
use Rattle.rational.specs.Rational.{ℚ, zeroℚ, ◌≤ℚ◌}
use Rattle.rational.proofs.Order.{lt_le}
use Rattle.rational.proofs.Inequalities.{le_refl, le_trans}
use Rattle.basics.proofs.Bools.{and_left, and_right, and_in, or_left, or_right}
use Rattle.basics.proofs.Naturals.{same_itself}
use Rattle.basics.proofs.Lists.{all_append, all_out, all_in, each_append, each_at, each_map}
use Rattle.task_types.specs.declared.actions.SnapKind.TheVariants.{Start, End}
use Rattle.task_types.specs.declared.constraints.Trail.{Trail}
use Rattle.task_types.specs.declared.constraints.TrailKind.{TrailKind}
use Rattle.task_types.specs.declared.constraints.TrailKind.TheVariants.{Always, Sometime, Within, AtMostOnce, SometimeAfter, SometimeBefore, AtEnd}
use Rattle.task_types.specs.declared.orderings.Blocked.{Blocked}
use Rattle.task_types.specs.declared.orderings.Blocked.TheVariants as blocked_by
use Rattle.task_types.specs.declared.parts.Rules.{Rules}
use Rattle.task_types.specs.declared.parts.TaskParts.{TaskParts}
use Rattle.task_types.specs.declared.plans.PlanLine.{PlanLine}
use Rattle.task_types.specs.Tests.{◌≤?◌, ◌<?◌, ◌⇒◌, some}
use Rattle.task_types.specs.Sets.{is_in, numbers}
use Rattle.task_types.specs.State.{literal_holds, tree_holds}
use Rattle.task_types.specs.Plan.{Plan, Step, action_of, snap_of, end_of, end_step, line_steps, plan_steps, timed_steps, steps, happenings}
use Rattle.task_types.specs.Course.{state_after, time_of, count}
use Rattle.task_types.specs.Trace.{Trace, Moment, trace, met, at}
use Rattle.task_types.specs.Order.{Order, running}
use Rattle.task_types.specs.Agreement.{plan_of, begun_lines, numbered, ValidTimes}
use Rattle.task_types.specs.Blocking.{facts_after, literal_tests, at_step, start_number, step_tests, list_trace, may_be_met, block_tests, blocked}
use Rattle.task_types.specs.Laws.{kept_along}
use Rattle.task_types.specs.Valid.{ArePositive, is_in_time, HoldsOverAll, HoldsWithin}
use Rattle.task_types.specs.WellMade.{IsWellMade, is_short, snap_fits, moments_ascend, snap_total}
use Rattle.task_types.proofs.Assigning.{snap_of_fits}
use Rattle.task_types.proofs.Comparisons.{lt_out, le_out, le_in}
use Rattle.task_types.proofs.Everyone.{all_both, all_tabulate}
use Rattle.task_types.proofs.Happenings.{Among, among, contained, happenings-times}
use Rattle.task_types.proofs.Sayings.{kept-along, constraints_along}
use Rattle.task_types.proofs.Unordered.{every_reordered}
use Rattle.ordering.specs.Along.{carried, AreInOrder}
use Rattle.ordering.specs.Laws.{Tells}
use Rattle.ordered_course.specs.Lines.{started_on, steps_listed, steps_of}
use Rattle.ordered_course.proofs.BlockedSteps.{MayHappen, steps_may, own_literals, IsAt, over_all_literals, each_among, goal_literals}
use Rattle.ordered_course.proofs.Groups.{IsGrouped, all_grouped, alters, alters_not, alters_apart}
use Rattle.ordered_course.proofs.Listed.{Closes}
use Rattle.ordered_course.proofs.ListFacts.{facts_listed}
use Rattle.ordered_course.proofs.Owned.{are_owned}
use Rattle.ordered_course.proofs.Passing.{passes, none_fails, all_of_range, all_of_each, literals_pass, numbered_pass, parted_at}
use Rattle.ordered_course.proofs.RunningLines.{Has, Both, has_of_map, has_both, IsStep, Runs, running_on, Line, running_line}
use Rattle.ordered_course.proofs.Telling.{Placed, placed_so, have_actions, timed_kinds, numbers_timed, closes_all, steps_in_order, tells}
use Rattle.ordered_course.proofs.TraceWalks.{kept_alike}

-- ---- the steps of a list, and their pairs

abbrev pair_of : Step → ℕ × ℚ
pair_of x = (x.snap, x.time)

pairs_listed : (task : TaskParts) (started : ℕ → ℚ) (ps : List (ℕ × ℚ)) → map pair_of (steps_listed task started ps) ≡ ps
pairs_listed task started [] = refl
pairs_listed task started (p ∷ ps) = ap (λ (l : List (ℕ × ℚ)). p ∷ l) (pairs_listed task (started_on (snap_of task p.0).kind (snap_of task p.0).action p.1 started) ps)

pairs_are : (task : TaskParts) (o : Order) (times : List ℚ) → map pair_of (steps_of task o times) ≡ zip o.steps times
unfolding steps_of
pairs_are task o times = pairs_listed task (λ a. zeroℚ) (zip o.steps times)

firsts : (ss : List ℕ) (ts : List ℚ) → length ts ≡ length ss → map (λ p. p.0) (zip ss ts) ≡ ss
firsts [] ts e = refl
firsts (s ∷ ss) [] e = absurd (omega (arith, e))
firsts (s ∷ ss) (t ∷ ts) e = ap (λ l. s ∷ l) (firsts ss ts (omega (arith, e)))

snaps_of_pairs : (xs : List Step) → map (λ p. p.0) (map pair_of xs) ≡ map (λ x. x.snap) xs
snaps_of_pairs [] = refl
snaps_of_pairs (x ∷ xs) = ap (λ l. x.snap ∷ l) (snaps_of_pairs xs)

pairs_append : (xs ys : List Step) → map pair_of xs ++ map pair_of ys ≡ map pair_of (xs ++ ys)
pairs_append [] ys = refl
pairs_append (x ∷ xs) ys = ap (λ (l : List (ℕ × ℚ)). (x.snap, x.time) ∷ l) (pairs_append xs ys)

has_so : {X : Type 0} (P Q : X → Type 0) (xs : List X) → ((x : X) → P x → Q x) → Has P xs → Has Q xs
has_so P Q [] f h = h
has_so P Q (x ∷ xs) f (inl h) = inl (f x h)
has_so P Q (x ∷ xs) f (inr h) = inr (has_so P Q xs f h)

each_in : (P : ℕ → Type 0) (xs : List ℕ) → ((a : ℕ) → is_in a xs ≡ true → P a) → AllByRecursion P xs
each_in P [] f = tt
each_in P (x ∷ xs) f = (f x (or_left (x == x) (is_in x xs) (same_itself x)), each_in P xs (λ a i. f a (or_right (x == a) (is_in a xs) i)))

-- ---- no time of a trace is below 0

module _ (task : TaskParts) (rules : Rules) (plan : Plan) where
  ends_late : (l : PlanLine) (o : Option ℕ) → zeroℚ ≤ℚ end_of l → AllByRecursion (λ x. zeroℚ ≤ℚ x.time) (end_step l o)
  ends_late l None h = tt
  ends_late l (Some s) h = (h, tt)

  lines_late : (ls : Plan) → list_all (is_in_time rules) ls ≡ true → AllByRecursion (λ x. zeroℚ ≤ℚ x.time) (plan_steps task ls)
  lines_late [] h = tt
  lines_late (l ∷ ls) h = let k = and_left (is_in_time rules l) (list_all (is_in_time rules) ls) h in
      each_append (λ x. zeroℚ ≤ℚ x.time) (line_steps task l) (plan_steps task ls)
      (le_out zeroℚ l.at (and_left _ _ (and_left _ _ (and_left _ _ k))), ends_late l (action_of task l.action).end (le_out zeroℚ (end_of l) (and_right _ _ (and_left _ _ k))))
      (lines_late ls (and_right (is_in_time rules l) (list_all (is_in_time rules) ls) h))

  moments_late : (t : ℚ) (us : List (ℚ × ℕ)) → zeroℚ ≤ℚ t → moments_ascend t us ≡ true → AllByRecursion (λ (x : Step). zeroℚ ≤ℚ x.time) (map (λ (u : ℚ × ℕ). record { time = u.0; snap = u.1; duration = zeroℚ }) us)
  moments_late t [] z h = tt
  moments_late t (u ∷ us) z h = let l = le_trans zeroℚ t u.0 z (lt_le t u.0 (lt_out t u.0 (and_left (t <? u.0) (moments_ascend u.0 us) h))) in (l, moments_late u.0 us l (and_right (t <? u.0) (moments_ascend u.0 us) h))

  happenings_late : AllByRecursion (λ x. zeroℚ ≤ℚ x.time) (steps task plan) → AllByRecursion (λ t. zeroℚ ≤ℚ t) (happenings task plan)
  happenings_late a = go (happenings task plan) (λ t m. each_among (λ t. zeroℚ ≤ℚ t) (map (λ s. s.time) (steps task plan)) t (each_map (λ t. zeroℚ ≤ℚ t) (λ s. s.time) (steps task plan) a)
      (among t (map (λ s. s.time) (steps task plan)) ((happenings-times task plan).no_other t (contained t (happenings task plan) m))))
    where
      go : (ts : List ℚ) → ((t : ℚ) → Among t ts → zeroℚ ≤ℚ t) → AllByRecursion (λ t. zeroℚ ≤ℚ t) ts
      go [] f = tt
      go (t ∷ ts) f = (f t (inl refl), go ts (λ u m. f u (inr m)))

  at_place : (ts : List ℚ) (k : ℕ) → AllByRecursion (λ t. zeroℚ ≤ℚ t) ts → zeroℚ ≤ℚ slice_index_or ts k zeroℚ
  at_place [] k a = le_refl zeroℚ
  at_place (t ∷ ts) zero a = a.0
  at_place (t ∷ ts) (suc k) a = at_place ts k a.1

  trace_late : list_all (is_in_time rules) plan ≡ true → moments_ascend zeroℚ task.timed ≡ true → AllByRecursion (λ m. zeroℚ ≤ℚ m.time) (trace task plan)
  trace_late h k = (
    le_refl zeroℚ,
    each_map (λ m. zeroℚ ≤ℚ m.time) (λ k. record { facts = (state_after task plan k).facts; time = time_of task plan k }) (numbers (count task plan))
        (all_tabulate (λ n. zeroℚ ≤ℚ time_of task plan n) (numbers (count task plan)) (λ n. at_place (happenings task plan) n
        (happenings_late (each_append (λ x. zeroℚ ≤ℚ x.time) (plan_steps task plan) (timed_steps task) (lines_late plan h) (moments_late zeroℚ task.timed (le_refl zeroℚ) k))))),
  )

some_soon : (a : Moment → Bool) (t : ℚ) (ms : Trace) → AllByRecursion (λ m. zeroℚ ≤ℚ m.time) ms → list_any (λ m. a m && (m.time ≤? t)) ms ≡ true → (list_any a ms ≡ true) × (zeroℚ ≤ℚ t)
some_soon a t [] n h = let c : false ≡ true = h in cc
some_soon a t (m ∷ ms) n h = go (a m && (m.time ≤? t)) refl h (some_soon a t ms n.1)
  where
    go : (b : Bool) → (a m && (m.time ≤? t)) ≡ b → (b || list_any (λ m. a m && (m.time ≤? t)) ms) ≡ true → (list_any (λ m. a m && (m.time ≤? t)) ms ≡ true → (list_any a ms ≡ true) × (zeroℚ ≤ℚ t)) → (list_any a (m ∷ ms) ≡ true) × (zeroℚ ≤ℚ t)
    go true e h r = (or_left (a m) (list_any a ms) (and_left (a m) (m.time ≤? t) e), le_trans zeroℚ m.time t n.0 (le_out m.time t (and_right (a m) (m.time ≤? t) e)))
    go false e h r = let k = r h in (or_right (a m) (list_any a ms) k.0, k.1)

-- ---- what valid times say

module _ (task : TaskParts) (rules : Rules) (o : Order) (times : List ℚ) (w : IsWellMade task) (positive : ArePositive rules) (v : ValidTimes task rules o times) where
  fits : (k : ℕ) → snap_fits task (snap_of task k) ≡ true
  fits = snap_of_fits task (and_right (is_short task.snaps) (list_all (snap_fits task) task.snaps) w.snaps)

  placed : Placed task rules o times
  placed = placed_so task rules o times v.agreeing

  told : Tells task (plan_of task o times) (steps_of task o times)
  told = tells task rules o times w v.ordering placed positive

  order : AreInOrder task (steps_of task o times)
  order = steps_in_order task rules o times w v.ordering placed positive

  may : AllByRecursion (MayHappen task (plan_of task o times)) (steps_of task o times)
  may = every_reordered (MayHappen task (plan_of task o times)) (steps task (plan_of task o times)) (steps_of task o times) told.same
      (steps_may task (plan_of task o times) fits v.valid.starts v.valid.ends (timed_kinds task task.timed (snap_total task.actions) (numbers_timed task rules o times w v.ordering placed)))

  snaps_are : map (λ x. x.snap) (steps_of task o times) ≡ o.steps
  snaps_are = sym (snaps_of_pairs (steps_of task o times)) ∙ ap (map (λ (p : ℕ × ℚ). p.0)) (pairs_are task o times) ∙ firsts o.steps times placed.lengths

  taken_snaps : (k : ℕ) → map (λ x. x.snap) (take k (steps_of task o times)) ≡ take k o.steps
  taken_snaps k = sym (take-map (λ x. x.snap) k (steps_of task o times)) ∙ ap (take k) snaps_are

  as_many : length (steps_of task o times) ≡ length o.steps
  as_many = sym (length-map (steps_of task o times) (λ x. x.snap)) ∙ ap length snaps_are

  facts_taken : (k : ℕ) → (carried task (take k (steps_of task o times))).facts ≡ facts_after task (take k o.steps)
  facts_taken k = facts_listed task (take k (steps_of task o times)) ∙ ap (facts_after task) (taken_snaps k)

  -- ---- at a step

  abbrev nothing : Step
  nothing = record { time = zeroℚ; snap = 0; duration = zeroℚ }

  itself : (k : ℕ) → (slice_index_or (steps_of task o times) k nothing).snap ≡ slice_index o.steps k
  itself k = sym (get_or-map (λ (x : Step). x.snap) (steps_of task o times) k nothing) ∙ ap (λ (l : List ℕ). slice_index_or l k 0) snaps_are

  own_hold : (k : ℕ) → k < length o.steps → list_all (λ l. literal_holds l (facts_after task (take k o.steps))) (snap_of task (slice_index o.steps k)).condition.literals ≡ true
  own_hold k h = subst (λ s. list_all (λ l. literal_holds l (facts_after task (take k o.steps))) (snap_of task s).condition.literals ≡ true) (itself k)
      (subst (λ (g : ℕ → Bool). list_all (λ l. literal_holds l g) (snap_of task (slice_index_or (steps_of task o times) k nothing).snap).condition.literals ≡ true) (facts_taken k)
      (own_literals task fits (plan_of task o times) (take k (steps_of task o times)) (drop (suc k) (steps_of task o times)) (slice_index_or (steps_of task o times) k nothing)
      (subst (Tells task (plan_of task o times)) (sym parted) told) (subst (AreInOrder task) (sym parted) order)
      (each_at (MayHappen task (plan_of task o times)) (steps_of task o times) k nothing below may)))
    where
      below : k < length (steps_of task o times)
      below = subst (λ n. k < n) (sym as_many) h

      parted : take k (steps_of task o times) ++ slice_index_or (steps_of task o times) k nothing ∷ drop (suc k) (steps_of task o times) ≡ steps_of task o times
      parted = parted_at (steps_of task o times) k nothing below

  -- ---- over all

  plan_is : (ps : List (ℕ × ℚ)) → ps ≡ zip o.steps times → numbered 1 (begun_lines task ps) ≡ plan_of task o times
  unfolding plan_of
  plan_is ps e = ap (λ (l : List (ℕ × ℚ)). numbered 1 (begun_lines task l)) e

  module _ (k : ℕ) where
    joined : map pair_of (take k (steps_of task o times)) ++ map pair_of (drop k (steps_of task o times)) ≡ zip o.steps times
    joined = pairs_append (take k (steps_of task o times)) (drop k (steps_of task o times)) ∙ ap (map pair_of) (take-append-drop k (steps_of task o times)) ∙ pairs_are task o times

    runs_on : (a : ℕ) → is_in a (running task (take k o.steps)) ≡ true → is_in a (running_on task [] (map pair_of (take k (steps_of task o times)))) ≡ true
    runs_on a i = subst (λ l. is_in a (running task l) ≡ true) (sym (snaps_of_pairs (take k (steps_of task o times)) ∙ taken_snaps k)) i

    line : (a : ℕ) → is_in a (running task (take k o.steps)) ≡ true → Line task (are_owned task w) (have_actions task w) a (map pair_of (take k (steps_of task o times))) (map pair_of (drop k (steps_of task o times)))
    line a i = running_line task (are_owned task w) (have_actions task w) a (map pair_of (take k (steps_of task o times))) (map pair_of (drop k (steps_of task o times)))
        (subst (Closes task []) (sym joined) (closes_all task rules o times w v.ordering placed)) (runs_on a i)

    has_end : (a : ℕ) (t : ℚ) (ps : List (ℕ × ℚ)) → Has (IsStep task End a t) ps → (action_of task a).end ≡ None → ⊥
    has_end a t [] h e = h
    has_end a t (p ∷ ps) (inl h) e = clash ((are_owned task w).ends p.0 a h.kind h.action)
      where
        clash : (action_of task a).end ≡ Some p.0 → ⊥
        clash f = let c : None ≡ Some p.0 = sym e ∙ f in cc
    has_end a t (p ∷ ps) (inr h) e = has_end a t ps h e

    over_all_hold : (a : ℕ) → is_in a (running task (take k o.steps)) ≡ true → list_all (λ l. literal_holds l (facts_after task (take k o.steps))) (action_of task a).over_all.literals ≡ true
    over_all_hold a i = subst (λ (g : ℕ → Bool). list_all (λ l. literal_holds l g) (action_of task a).over_all.literals ≡ true) (facts_taken k)
        (over_all_literals task fits (plan_of task o times) (take k (steps_of task o times)) (drop k (steps_of task o times))
        (subst (Tells task (plan_of task o times)) (sym (take-append-drop k (steps_of task o times))) told)
        (subst (AreInOrder task) (sym (take-append-drop k (steps_of task o times))) order)
        a l.from l.to
        (has_so (λ x. IsStep task Start a l.from (pair_of x)) (IsAt task fits (plan_of task o times) Start a l.from) (take k (steps_of task o times)) (λ x s. record { kind = s.kind; action = s.action; time = s.time })
        (has_of_map (IsStep task Start a l.from) pair_of (take k (steps_of task o times)) l.start))
        (has_so (λ x. IsStep task End a l.to (pair_of x)) (IsAt task fits (plan_of task o times) End a l.to) (drop k (steps_of task o times)) (λ x s. record { kind = s.kind; action = s.action; time = s.time })
        (has_of_map (IsStep task End a l.to) pair_of (drop k (steps_of task o times)) l.end))
        (has_end a l.to (map pair_of (drop k (steps_of task o times))) l.end)
        within)
      where
        l : Line task (are_owned task w) (have_actions task w) a (map pair_of (take k (steps_of task o times))) (map pair_of (drop k (steps_of task o times)))
        l = line a i

        here : Both (Runs a l.from l.to) (HoldsOverAll task (plan_of task o times))
        here = has_both (Runs a l.from l.to) (HoldsOverAll task (plan_of task o times)) (plan_of task o times)
            (subst (Has (Runs a l.from l.to)) (plan_is (map pair_of (take k (steps_of task o times)) ++ map pair_of (drop k (steps_of task o times))) joined) l.line) v.valid.over_all

        within : HoldsWithin task (plan_of task o times) (action_of task a).over_all l.from l.to
        within = subst (λ b. HoldsWithin task (plan_of task o times) (action_of task b).over_all l.from l.to) here.first.action
            (subst (λ t. HoldsWithin task (plan_of task o times) (action_of task here.it.action).over_all t l.to) here.first.starts
            (subst (λ t. HoldsWithin task (plan_of task o times) (action_of task here.it.action).over_all here.it.at t) here.first.ends here.second))

  step_pass : (k : ℕ) → k < length o.steps → list_all passes (step_tests task o.steps k) ≡ true
  step_pass k h = all_append passes (literal_tests (at_step (snap_of task (slice_index o.steps k)).kind (k + 1)) (facts_after task (take k o.steps)) (snap_of task (slice_index o.steps k)).condition)
      (flat_map (λ a. literal_tests (λ n. blocked_by.OverAll (k + 1) n (start_number task a 1 (take (k + 1) o.steps) 0)) (facts_after task (take (k + 1) o.steps)) (action_of task a).over_all) (running task (take (k + 1) o.steps)))
      (literals_pass (at_step (snap_of task (slice_index o.steps k)).kind (k + 1)) (facts_after task (take k o.steps)) (snap_of task (slice_index o.steps k)).condition (own_hold k h))
      (all_of_each passes (λ a. literal_tests (λ n. blocked_by.OverAll (k + 1) n (start_number task a 1 (take (k + 1) o.steps) 0)) (facts_after task (take (k + 1) o.steps)) (action_of task a).over_all) (running task (take (k + 1) o.steps))
      (each_in (λ a. list_all passes (literal_tests (λ n. blocked_by.OverAll (k + 1) n (start_number task a 1 (take (k + 1) o.steps) 0)) (facts_after task (take (k + 1) o.steps)) (action_of task a).over_all) ≡ true) (running task (take (k + 1) o.steps))
      (λ a i. literals_pass (λ n. blocked_by.OverAll (k + 1) n (start_number task a 1 (take (k + 1) o.steps) 0)) (facts_after task (take (k + 1) o.steps)) (action_of task a).over_all (over_all_hold (k + 1) a i))))

  -- ---- the goal

  goal_hold : list_all (λ l. literal_holds l (facts_after task o.steps)) task.goal.literals ≡ true
  goal_hold = subst (λ (g : ℕ → Bool). list_all (λ l. literal_holds l g) task.goal.literals ≡ true) (facts_listed task (steps_of task o times) ∙ ap (facts_after task) snaps_are)
      (goal_literals task (plan_of task o times) (steps_of task o times) told task.goal v.valid.goal)

  -- ---- hard constraints

  module _ (c : Trail) (grouped : IsGrouped task c) (h : met c (trace task (plan_of task o times)) ≡ true) where
    abbrev states : Trace
    states = list_trace task (map (λ x. x.snap) (steps_of task o times))

    alike : (kind : TrailKind) → (kind ≡ Within → ⊥)
        → kept_along kind (λ m. tree_holds c.first m.facts) (λ m. tree_holds c.second m.facts) (λ m. m.time ≤? c.moment) (list_trace task (map (λ x. x.snap) (steps_of task o times)))
        ≡ kept_along kind (λ m. tree_holds c.first m.facts) (λ m. tree_holds c.second m.facts) (λ m. m.time ≤? c.moment) (trace task (plan_of task o times))
    alike kind n = kept_alike task (plan_of task o times) (steps_of task o times) told order c (λ x. alters task fits c grouped x.snap)
        (λ x e f i. alters_not task fits c grouped x.snap f e i) (λ x y e f. alters_apart task fits c grouped x.snap y.snap e f) kind n (λ m. m.time ≤? c.moment) (λ m. m.time ≤? c.moment)

    met_along : (c.kind ≡ Within → ⊥) → met c (list_trace task (map (λ x. x.snap) (steps_of task o times))) ≡ true
    met_along n = constraints_along.along c (list_trace task (map (λ x. x.snap) (steps_of task o times))) ∙ alike c.kind n ∙ sym (constraints_along.along c (trace task (plan_of task o times))) ∙ h

    late : AllByRecursion (λ m. zeroℚ ≤ℚ m.time) (trace task (plan_of task o times))
    late = trace_late task rules (plan_of task o times) v.valid.in_time (and_right _ _ w.timed)

    within_along : c.kind ≡ Within → (some (length (list_trace task (map (λ x. x.snap) (steps_of task o times)))) (λ k. at (list_trace task (map (λ x. x.snap) (steps_of task o times))) k (λ m. tree_holds c.first m.facts))
        && (at (list_trace task (map (λ x. x.snap) (steps_of task o times))) 0 (λ m. tree_holds c.first m.facts) ⇒ (zeroℚ ≤? c.moment))) ≡ true
    within_along e = and_in (some (length states) (λ k. at states k (λ m. tree_holds c.first m.facts))) (at states 0 (λ m. tree_holds c.first m.facts) ⇒ (zeroℚ ≤? c.moment))
        (kept-along Sometime (λ m. tree_holds c.first m.facts) (λ m. tree_holds c.second m.facts) (λ m. m.time ≤? c.moment) states ∙ alike Sometime other ∙ soon.0)
        (or_right (not (at states 0 (λ m. tree_holds c.first m.facts))) (zeroℚ ≤? c.moment) (le_in zeroℚ c.moment soon.1))
      where
        other : Sometime ≡ Within → ⊥
        other q = cc

        soon : (list_any (λ m. tree_holds c.first m.facts) (trace task (plan_of task o times)) ≡ true) × (zeroℚ ≤ℚ c.moment)
        soon = some_soon (λ m. tree_holds c.first m.facts) c.moment (trace task (plan_of task o times)) late
            (subst (λ k. kept_along k (λ m. tree_holds c.first m.facts) (λ m. tree_holds c.second m.facts) (λ m. m.time ≤? c.moment) (trace task (plan_of task o times)) ≡ true) e (sym (constraints_along.along c (trace task (plan_of task o times))) ∙ h))

    may_along : may_be_met c.kind c (list_trace task (map (λ x. x.snap) (steps_of task o times))) ≡ true
    may_along = go c.kind refl
      where
        not_within : (k : TrailKind) → c.kind ≡ k → (k ≡ Within → ⊥) → c.kind ≡ Within → ⊥
        not_within k e n f = n (sym e ∙ f)

        go : (k : TrailKind) → c.kind ≡ k → may_be_met k c (list_trace task (map (λ x. x.snap) (steps_of task o times))) ≡ true
        go Always e = met_along (not_within Always e (λ q. let z : Always ≡ Within = q in cc))
        go Sometime e = met_along (not_within Sometime e (λ q. let z : Sometime ≡ Within = q in cc))
        go Within e = within_along e
        go AtMostOnce e = met_along (not_within AtMostOnce e (λ q. let z : AtMostOnce ≡ Within = q in cc))
        go SometimeAfter e = met_along (not_within SometimeAfter e (λ q. let z : SometimeAfter ≡ Within = q in cc))
        go SometimeBefore e = met_along (not_within SometimeBefore e (λ q. let z : SometimeBefore ≡ Within = q in cc))
        go AtEnd e = met_along (not_within AtEnd e (λ q. let z : AtEnd ≡ Within = q in cc))

    may_met : may_be_met c.kind c (list_trace task o.steps) ≡ true
    may_met = subst (λ l. may_be_met c.kind c (list_trace task l) ≡ true) snaps_are may_along

  constraints_hold : list_all (λ c. may_be_met c.kind c (list_trace task o.steps)) task.hard ≡ true
  constraints_hold = all_in (λ c. may_be_met c.kind c (list_trace task o.steps)) task.hard
      (all_both (IsGrouped task) (λ c. met c (trace task (plan_of task o times)) ≡ true) (λ c. may_be_met c.kind c (list_trace task o.steps) ≡ true) task.hard (λ c g h. may_met c g h) (all_grouped task) (all_out (λ c. met c (trace task (plan_of task o times))) task.hard v.valid.constraints))

  -- ---- all of it

  all_pass : list_all passes (block_tests task o.steps) ≡ true
  unfolding block_tests
  all_pass = all_append passes (flat_map (step_tests task o.steps) (numbers (length o.steps)) ++ literal_tests blocked_by.Goal (facts_after task o.steps) task.goal) (map (λ c. (blocked_by.Constraint c.0, may_be_met c.1.kind c.1 (list_trace task o.steps))) (enumerate_from 1 task.hard))
      (all_append passes (flat_map (step_tests task o.steps) (numbers (length o.steps))) (literal_tests blocked_by.Goal (facts_after task o.steps) task.goal)
      (all_of_range passes (step_tests task o.steps) 0 (length o.steps) (λ k a b. step_pass k (omega (arith, b))))
      (literals_pass blocked_by.Goal (facts_after task o.steps) task.goal goal_hold))
      (numbered_pass blocked_by.Constraint (λ c. may_be_met c.kind c (list_trace task o.steps)) 1 task.hard constraints_hold)

  pub not_blocked : blocked task o.steps ≡ None
  unfolding blocked
  not_blocked = ap (option_map (λ (b : Blocked × Bool). b.0)) (none_fails passes (block_tests task o.steps) all_pass)

  pub no_valid_times : (b : Blocked) → blocked task o.steps ≡ Some b → ⊥
  no_valid_times b e = let c : None ≡ Some b = sym not_blocked ∙ e in cc
