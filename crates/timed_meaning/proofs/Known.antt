-- The steps of a plan that is built for a well made task are of its snap actions.
use Rattle.std.proofs.Common.{◌≡◌, sym, subst, ◌∙◌, ℕ, ◌<◌, ◌+◌, Bool, true, false, List, [], ◌∷◌, length, map, Option, Some, None, arith, cond}
use Rattle.std.specs.Prelude.{nat_lt, IsPermutation}
use Rattle.std.specs.List.{AllByRecursion, filter}
use Rattle.std.proofs.lemmas.Bool.Decides.{nat_tests}
use Rattle.rational.specs.Rational.{ℚ}
use Rattle.basics.proofs.Bools.{and_left, and_right}
use Rattle.basics.proofs.Naturals.{same_out, lt_out}
use Rattle.basics.proofs.Lists.{each_append, each_at, all_in, all_out}
use Rattle.task_types.specs.declared.actions.Action.{Action}
use Rattle.task_types.specs.declared.parts.TaskParts.{TaskParts}
use Rattle.task_types.specs.declared.plans.PlanLine.{PlanLine}
use Rattle.task_types.specs.Tests.{◌≤?◌}
use Rattle.task_types.specs.Plan.{Plan, Step, action_of, no_action, line_steps, end_step, plan_steps, timed_steps, steps}
use Rattle.task_types.specs.Reckoned.{put_by_start, by_start}
use Rattle.task_types.specs.WellMade.{IsWellMade, has_snaps, are_numbered, are_timed, snap_count}
use Rattle.task_types.proofs.Reordering.{all_reordered}
use Rattle.task_types.proofs.Sayings.{at_below}
use Rattle.timed_meaning.specs.Told.{AreSteps, timed_step}
use Rattle.timed_meaning.specs.Moves.{AreLines}

abbrev EndKnown : ℕ → Option ℕ → Type 0
EndKnown m None = Unit {0}
EndKnown m (Some s) = s < m

module _ (task : TaskParts) where
  abbrev SnapsKnown : Action → Type 0
  SnapsKnown x = (x.start < length task.snaps) × EndKnown (length task.snaps) x.end

  snaps-known : (n a : ℕ) (o : Option ℕ) → has_snaps task n a o ≡ true → (n < length task.snaps) × EndKnown (length task.snaps) o
  snaps-known n a None h = (at_below _ task.snaps n h, tt)
  snaps-known n a (Some e) h = (at_below _ task.snaps n (and_right _ _ (and_left _ _ h)), at_below _ task.snaps e (and_right _ _ h))

  numbered-known : (n a : ℕ) (xs : List Action) → are_numbered task n a xs ≡ true → AllByRecursion SnapsKnown xs
  numbered-known n a [] h = tt
  numbered-known n a (x ∷ xs) h =
      let k : (n < length task.snaps) × EndKnown (length task.snaps) x.end = snaps-known n a x.end (and_right _ _ (and_left _ _ h)) in
      ((subst (λ m. m < length task.snaps) (sym (same_out x.start n (and_left _ _ (and_left _ _ h)))) k.0, k.1), numbered-known (n + snap_count x) (a + 1) xs (and_right _ _ h))

  timed-known : (n : ℕ) (ts : List (ℚ × ℕ)) → are_timed task n ts ≡ true → AreSteps task (map timed_step ts)
  timed-known n [] h = tt
  timed-known n (t ∷ ts) h = (subst (λ m. m < length task.snaps) (sym (same_out t.1 n (and_left _ _ (and_left _ _ h)))) (at_below _ task.snaps n (and_right _ _ (and_left _ _ h))), timed-known (n + 1) ts (and_right _ _ h))

  module _ (w : IsWellMade task) where
    ends-known : (l : PlanLine) (o : Option ℕ) → EndKnown (length task.snaps) o → AreSteps task (end_step l o)
    ends-known l None h = tt
    ends-known l (Some s) h = (h, tt)

    line-known : (l : PlanLine) → l.action < length task.actions → AreSteps task (line_steps task l)
    line-known l h =
        let k : SnapsKnown (action_of task l.action) = each_at SnapsKnown task.actions l.action no_action h (numbered-known 0 0 task.actions (and_right _ _ w.numbered)) in
        (k.0, ends-known l (action_of task l.action).end k.1)

    plan-known : (plan : Plan) → AreLines task plan → AreSteps task (plan_steps task plan)
    plan-known [] h = tt
    plan-known (l ∷ ls) h = each_append (λ step. step.snap < length task.snaps) (line_steps task l) (plan_steps task ls) (line-known l h.0) (plan-known ls h.1)

    pub steps-known : (plan : Plan) → AreLines task plan → AreSteps task (steps task plan)
    steps-known plan h = each_append (λ step. step.snap < length task.snaps) (plan_steps task plan) (timed_steps task) (plan-known plan h) (timed-known _ task.timed (and_right _ _ (and_left _ _ w.timed)))

  tested : (xs : List Step) → AreSteps task xs → AllByRecursion (λ s. nat_lt s.snap (length task.snaps) ≡ true) xs
  tested [] h = tt
  tested (x ∷ xs) h = (let l : x.snap < length task.snaps = h.0 in grind (arith, nat_tests), tested xs h.1)

  untested : (xs : List Step) → AllByRecursion (λ s. nat_lt s.snap (length task.snaps) ≡ true) xs → AreSteps task xs
  untested [] h = tt
  untested (x ∷ xs) h = (lt_out x.snap (length task.snaps) h.0, untested xs h.1)

  pub known-reordered : (xs ys : List Step) → IsPermutation xs ys → AreSteps task xs → AreSteps task ys
  known-reordered xs ys p h = untested ys (all_out (λ s. nat_lt s.snap (length task.snaps)) ys (sym (all_reordered (λ s. nat_lt s.snap (length task.snaps)) xs ys p) ∙ all_in (λ s. nat_lt s.snap (length task.snaps)) xs (tested xs h)))

-- ---- facts of each line, in the order of starts and of chosen ones

module _ (P : PlanLine → Type 0) where
  put-each : (l : PlanLine) (ms : Plan) → P l → AllByRecursion P ms → AllByRecursion P (put_by_start l ms)
  put-each l [] h a = (h, tt)
  put-each l (m ∷ ms) h a = go (l.at ≤? m.at) (put-each l ms h a.1)
    where
      go : (b : Bool) → AllByRecursion P (put_by_start l ms) → AllByRecursion P (cond b (l ∷ m ∷ ms) (m ∷ put_by_start l ms))
      go true r = (h, a)
      go false r = (a.0, r)

  pub by_start-each : (ls : Plan) → AllByRecursion P ls → AllByRecursion P (by_start ls)
  by_start-each [] a = tt
  by_start-each (l ∷ ls) a = put-each l (by_start ls) a.0 (by_start-each ls a.1)

  pub filter-each : (p : PlanLine → Bool) (ls : Plan) → AllByRecursion P ls → AllByRecursion P (filter p ls)
  filter-each p [] a = tt
  filter-each p (l ∷ ls) a = go (p l) (filter-each p ls a.1)
    where
      go : (b : Bool) → AllByRecursion P (filter p ls) → AllByRecursion P (cond b (l ∷ filter p ls) (filter p ls))
      go true r = (a.0, r)
      go false r = r
