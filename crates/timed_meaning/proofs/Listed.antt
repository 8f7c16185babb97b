-- The steps of a plan with their owners and its placed lines, as they are listed before they are sorted.
use Rattle.std.proofs.Common.{◌≡◌, refl, sym, ap, ◌∙◌, ℕ, suc, ◌+◌, ◌*◌, ◌^◌, ◌<◌, ◌≤◌, true, List, [], ◌∷◌, ◌++◌, length, map, Some, None, Option, length-append, arith}
use Rattle.std.specs.Prelude.{IsPermutation}
use Rattle.std.specs.List.{AllByRecursion, flat_map, enumerate_from}
use Rattle.std.proofs.lemmas.List.{length-map}
use Rattle.std.proofs.lemmas.List.Sorted.{length_permutation, IsPermutation-refl}
use Rattle.basics.proofs.Bools.{and_left}
use Rattle.basics.proofs.Naturals.{le_out}
use Rattle.rational.specs.Rational.{ℚ, cmp_ℚ}
use Rattle.std.specs.declared.cmp.Ordering.{Ordering}
use Rattle.std.specs.declared.cmp.Ordering.TheVariants.{Less, Equal, Greater}
use Rattle.basics.proofs.Lists.{all_in, all_out}
use Rattle.task_types.specs.declared.parts.TaskParts.{TaskParts}
use Rattle.task_types.specs.declared.plans.PlanLine.{PlanLine}
use Rattle.task_types.specs.Tests.{◌=?◌}
use Rattle.task_types.specs.Plan.{Plan, Step, end_of, end_step, line_steps, plan_steps, timed_steps, steps, action_of, beside, in_place, ascending, happenings}
use Rattle.task_types.specs.Course.{count}
use Rattle.task_types.specs.WellMade.{IsWellMade}
use Rattle.task_types.proofs.Comparisons.{eq_in, eq_out}
use Rattle.task_types.proofs.Everyone.{all_map}
use Rattle.task_types.proofs.Reordering.{all_reordered}
use Rattle.timed_meaning.specs.declared.steps.OwnedStep.{OwnedStep}
use Rattle.timed_meaning.specs.declared.placing.PlacedLine.{PlacedLine}
use Rattle.timed_meaning.specs.TimedPlans.{IsBuiltFor}
use Rattle.timed_meaning.specs.Told.{timed_step}
use Rattle.timed_meaning.specs.Owned.{owned, owned_line, owned_moment, owned_steps, steps_of, placed, placed_lines}

-- each placed line has its end
ends-each : (n : ℕ) (plan : Plan) → AllByRecursion (λ p. (p.end =? end_of p.line) ≡ true) (map placed (enumerate_from n plan))
ends-each n [] = tt
ends-each n (l ∷ ls) = (eq_in (end_of l) (end_of l) refl, ends-each (n + 1) ls)

pub ends-placed : (plan : Plan) (sorted : List PlacedLine) → IsPermutation (placed_lines plan) sorted → AllByRecursion (λ p. p.end ≡ end_of p.line) sorted
ends-placed plan sorted p = all_map (λ p. (p.end =? end_of p.line) ≡ true) (λ p. p.end ≡ end_of p.line) sorted (λ p e. eq_out p.end (end_of p.line) e)
    (all_out (λ p. p.end =? end_of p.line) sorted (sym (all_reordered (λ p. p.end =? end_of p.line) (placed_lines plan) sorted p) ∙ all_in (λ p. p.end =? end_of p.line) (placed_lines plan) (ends-each 0 plan)))

-- ---- distinct times are no more than times

pub length-beside : (o : Ordering) (t u : ℚ) (us rest : List ℚ) → length rest ≤ suc (length us) → length (beside o t u us rest) ≤ suc (suc (length us))
length-beside Less t u us rest h = omega arith
length-beside Equal t u us rest h = omega arith
length-beside Greater t u us rest h = omega (arith, h)

pub length-in_place : (t : ℚ) (us : List ℚ) → length (in_place t us) ≤ suc (length us)
length-in_place t [] = omega arith
length-in_place t (u ∷ us) = length-beside (cmp_ℚ t u) t u us (in_place t us) (length-in_place t us)

pub length-ascending : (ts : List ℚ) → length (ascending ts) ≤ length ts
length-ascending [] = omega arith
length-ascending (t ∷ ts) = let p : length (in_place t (ascending ts)) ≤ suc (length (ascending ts)) = length-in_place t (ascending ts) in let r : length (ascending ts) ≤ length ts = length-ascending ts in omega (arith, p, r)

-- ---- the steps without their owners

module _ (task : TaskParts) where
  bare : (i : ℕ) (xs : List Step) → steps_of (map (owned i) xs) ≡ xs
  bare i [] = refl
  bare i (x ∷ xs) = ap (λ l. x ∷ l) (bare i xs)

  steps_of-append : (xs ys : List OwnedStep) → steps_of (xs ++ ys) ≡ steps_of xs ++ steps_of ys
  steps_of-append [] ys = refl
  steps_of-append (x ∷ xs) ys = ap (λ l. x.step ∷ l) (steps_of-append xs ys)

  bare-lines : (n : ℕ) (plan : Plan) → steps_of (flat_map (owned_line task) (enumerate_from n plan)) ≡ plan_steps task plan
  bare-lines n [] = refl
  bare-lines n (l ∷ ls) = steps_of-append (map (owned n) (line_steps task l)) (flat_map (owned_line task) (enumerate_from (n + 1) ls))
      ∙ ap (λ k. k ++ steps_of (flat_map (owned_line task) (enumerate_from (n + 1) ls))) (bare n (line_steps task l)) ∙ ap (λ k. line_steps task l ++ k) (bare-lines (n + 1) ls)

  bare-timed : (m n : ℕ) (ts : List (ℚ × ℕ)) → steps_of (map (owned_moment m) (enumerate_from n ts)) ≡ map timed_step ts
  bare-timed m n [] = refl
  bare-timed m n (t ∷ ts) = ap (λ l. timed_step t ∷ l) (bare-timed m (n + 1) ts)

  pub steps-owned : (plan : Plan) → steps_of (owned_steps task plan) ≡ steps task plan
  steps-owned plan = steps_of-append (flat_map (owned_line task) (enumerate_from 0 plan)) (map (owned_moment (length plan)) (enumerate_from 0 task.timed))
      ∙ ap (λ k. k ++ steps_of (map (owned_moment (length plan)) (enumerate_from 0 task.timed))) (bare-lines 0 plan) ∙ ap (λ k. plan_steps task plan ++ k) (bare-timed (length plan) 0 task.timed)

  -- ---- how many there are

  length-end : (l : PlanLine) (o : Option ℕ) → length (end_step l o) ≤ 1
  length-end l None = omega arith
  length-end l (Some s) = omega arith

  length-plan : (plan : Plan) → length (plan_steps task plan) ≤ 2 * length plan
  length-plan [] = omega arith
  length-plan (l ∷ ls) = let e : length (line_steps task l ++ plan_steps task ls) ≡ length (line_steps task l) + length (plan_steps task ls) = length-append (line_steps task l) (plan_steps task ls) in
      let k : length (end_step l (action_of task l.action).end) ≤ 1 = length-end l (action_of task l.action).end in
      let r : length (plan_steps task ls) ≤ 2 * length ls = length-plan ls in
      omega (arith, e, k, r)

  pub timed-few : IsWellMade task → length task.timed ≤ 64
  timed-few w = le_out (length task.timed) 64 (and_left _ _ (and_left _ _ w.timed))

  pub few-steps : (plan : Plan) (xs : List Step) → IsWellMade task → IsBuiltFor task plan → IsPermutation (steps task plan) xs → length xs ≤ 8256
  few-steps plan xs w b p =
      let e : length xs ≡ length (steps task plan) = length_permutation (steps task plan) xs p in
      let a : length (steps task plan) ≡ length (plan_steps task plan) + length (timed_steps task) = length-append (plan_steps task plan) (timed_steps task) in
      let k : length (plan_steps task plan) ≤ 2 * length plan = length-plan plan in
      let t : length (timed_steps task) ≡ length task.timed = length-map task.timed timed_step in
      let m : length task.timed ≤ 64 = timed-few w in
      let f : length plan ≤ 4096 = b.few in
      omega (arith, e, a, k, t, m, f)

  -- ---- how many happenings there are

  pub few-happenings : (plan : Plan) → IsWellMade task → IsBuiltFor task plan → count task plan ≤ 8256
  unfolding happenings
  few-happenings plan w b =
      let c : length (ascending (map (λ s. s.time) (steps task plan))) ≤ length (map (λ s. s.time) (steps task plan)) = length-ascending (map (λ s. s.time) (steps task plan)) in
      let m : length (map (λ (s : Step). s.time) (steps task plan)) ≡ length (steps task plan) = length-map (steps task plan) (λ s. s.time) in
      let f : length (steps task plan) ≤ 8256 = few-steps plan (steps task plan) w b (IsPermutation-refl (steps task plan)) in
      omega (arith, c, m, f)
