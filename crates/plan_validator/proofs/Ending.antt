-- Over-all duties are met as their tests at the ends of segments.
use Rattle.std.proofs.Common.{◌≡◌, refl, sym, ap, subst, ◌∙◌, ℕ, zero, suc, ◌+◌, ◌-◌, ◌<◌, Bool, true, false, ◌&&◌, List, [], ◌∷◌, length, map, arith}
use Rattle.std.specs.Prelude.{slice_index_or, ◌↔◌, IsTrue}
use Rattle.std.specs.List.{range_with_len}
use Rattle.rational.specs.Rational.{ℚ, zeroℚ}
use Rattle.basics.specs.Duties.{Duty, duty}
use Rattle.basics.proofs.Bools.{and_left, and_right, and_in}
use Rattle.task_types.specs.declared.parts.TaskParts.{TaskParts}
use Rattle.task_types.specs.declared.plans.PlanLine.{PlanLine}
use Rattle.task_types.specs.declared.plans.Reason.{Reason}
use Rattle.task_types.specs.declared.plans.Reason.TheVariants as reason
use Rattle.task_types.specs.Tests.{◌≤?◌, ◌⇒◌}
use Rattle.task_types.specs.State.{holds}
use Rattle.task_types.specs.Plan.{Plan, IsFormed, action_of, end_of, happenings}
use Rattle.task_types.specs.Course.{time_of, count, state_after, state_before}
use Rattle.task_types.specs.Valid.{segments, line_over_alls, over_alls, HoldsWithin}
use Rattle.task_types.proofs.Segment.{segment}
use Rattle.plan_validator.specs.Ends.{segment_test, over_all_reason, over_all_tests, all_over_all_tests}
use Rattle.plan_validator.proofs.Judgement.{Alike, Alike-append}

-- a condition that is asked where a test holds
asked : (a b c : Bool) (P : Type 0) → (P ↔ ((b ≡ true) × (c ≡ true))) → ((a ≡ true) → P) ↔ ((a ⇒ (b && c)) ≡ true)
asked true b c P h = (λ f. let p = h.0 (f refl) in and_in b c p.0 p.1, λ e q. h.1 (and_left b c e, and_right b c e))
asked false b c P h = (λ f. refl, λ e q. let x : false ≡ true = q in cc)

module _ (task : TaskParts) (plan : Plan) (formed : IsFormed task plan) (l : PlanLine) where
  one : (k : ℕ) (t u : ℚ) → suc k < count task plan → t ≡ time_of task plan k → u ≡ time_of task plan (suc k)
      → ((reason.OverAll l.line t u) ≡ over_all_reason task plan l k)
      × ((IsTrue ((l.at ≤? t) && (u ≤? end_of l)) → HoldsWithin task plan (action_of task l.action).over_all t u) ↔ IsTrue (segment_test task plan l k))
  one k t u h e f = (
    ap (λ x. reason.OverAll l.line x u) e ∙ ap (λ x. reason.OverAll l.line (time_of task plan k) x) f,
    subst (λ x. (IsTrue ((l.at ≤? x) && (u ≤? end_of l)) → HoldsWithin task plan (action_of task l.action).over_all x u) ↔ IsTrue (segment_test task plan l k)) (sym e)
        (subst (λ x. (IsTrue ((l.at ≤? time_of task plan k) && (x ≤? end_of l)) → HoldsWithin task plan (action_of task l.action).over_all (time_of task plan k) x) ↔ IsTrue (segment_test task plan l k)) (sym f)
        (asked ((l.at ≤? time_of task plan k) && (time_of task plan (suc k) ≤? end_of l)) (holds (action_of task l.action).over_all (state_after task plan k)) (holds (action_of task l.action).over_all (state_before task plan (suc k)))
        (HoldsWithin task plan (action_of task l.action).over_all (time_of task plan k) (time_of task plan (suc k))) (segment task plan k (action_of task l.action).over_all h formed))),
  )

  abbrev all_segments : List (ℚ × ℚ) → List (Duty Reason)
  all_segments gs = map (λ g. record { fault = reason.OverAll l.line g.0 g.1; Met = IsTrue ((l.at ≤? g.0) && (g.1 ≤? end_of l)) → HoldsWithin task plan (action_of task l.action).over_all g.0 g.1 }) gs

  abbrev tests_of : List ℕ → List (Duty Reason)
  tests_of ks = map (λ k. duty (over_all_reason task plan l k) (segment_test task plan l k)) ks

  from_place : (ts : List ℚ) (j n : ℕ) → n ≡ length ts - 1 → j + length ts ≡ count task plan → ((i : ℕ) → i < length ts → slice_index_or ts i zeroℚ ≡ time_of task plan (j + i)) → Alike (all_segments (segments ts)) (tests_of (range_with_len j n))
  from_place [] j zero e c h = tt
  from_place [] j (suc n) e c h = absurd (omega (arith, e))
  from_place (t ∷ []) j zero e c h = tt
  from_place (t ∷ []) j (suc n) e c h = absurd (omega (arith, e))
  from_place (t ∷ u ∷ us) j zero e c h = absurd (omega (arith, e))
  from_place (t ∷ u ∷ us) j (suc n) e c h = (
    one j t u (omega (arith, c)) (h 0 (omega arith) ∙ ap (time_of task plan) (let q : j + 0 ≡ j = omega arith in q)) (h 1 (omega arith) ∙ ap (time_of task plan) (let q : j + 1 ≡ suc j = omega arith in q)),
    from_place (u ∷ us) (j + 1) n (let q : n ≡ length (u ∷ us) - 1 = omega (arith, e) in q) (let q : j + 1 + length (u ∷ us) ≡ count task plan = omega (arith, c) in q)
        (λ i m. h (suc i) (omega (arith, m)) ∙ ap (time_of task plan) (let q : j + suc i ≡ j + 1 + i = omega arith in q)),
  )

  pub line-alike : Alike (line_over_alls task plan l) (over_all_tests task plan l)
  line-alike = from_place (happenings task plan) 0 (count task plan - 1) refl (let q : 0 + length (happenings task plan) ≡ count task plan = omega arith in q) (λ i m. ap (time_of task plan) (let q : i ≡ 0 + i = omega arith in q))

pub over_alls-alike : (task : TaskParts) (plan : Plan) → IsFormed task plan → (ls : List PlanLine) → Alike (over_alls task plan ls) (all_over_all_tests task plan ls)
over_alls-alike task plan formed [] = tt
over_alls-alike task plan formed (l ∷ ls) = Alike-append (line_over_alls task plan l) (over_all_tests task plan l) (over_alls task plan ls) (all_over_all_tests task plan ls) (line-alike task plan formed l) (over_alls-alike task plan formed ls)
