-- A condition holds strictly between two happenings where it holds at both ends of each segment between them.
use Rattle.std.proofs.Common.{◌≡◌, refl, sym, ap, subst, ◌∙◌, ℕ, zero, suc, ◌<◌, ◌≤◌, arith, ⊎_elim, inl, inr}
use Rattle.std.specs.Prelude.{◌⊎◌, IsTrue}
use native.Mathlib.Decide.{dec_lt}
use Rattle.rational.specs.Rational.{ℚ, ◌≤ℚ◌, ◌<ℚ◌}
use Rattle.rational.proofs.Order.{lt_le, le_or_gt, le_antisymm, lt_irrefl}
use Rattle.task_types.specs.declared.parts.TaskParts.{TaskParts}
use Rattle.task_types.specs.declared.conditions.Condition.{Condition}
use Rattle.task_types.specs.State.{holds}
use Rattle.task_types.specs.Plan.{Plan, IsFormed}
use Rattle.task_types.specs.Course.{reached, before, after, happen, steps_at, time_of, state_after, state_before, count}
use Rattle.task_types.specs.Valid.{HoldsWithin}
use Rattle.task_types.proofs.Comparisons.{lt_le_absurd, eq_le}
use Rattle.task_types.proofs.Instants.{before-between}
use Rattle.task_types.proofs.Segment.{segment}

-- the segment in which an instant lies
locate : (at : ℕ → ℚ) (t : ℚ) (i j : ℕ) → i < j → at i <ℚ t → t ≤ℚ at j → (k : ℕ) × (i ≤ k) × (k < j) × (at k <ℚ t) × (t ≤ℚ at (suc k))
locate at t i zero h l m = absurd (omega arith)
locate at t i (suc j) h l m = go (locate at t i j) (le_or_gt t (at j))
  where
    step : (k : ℕ) × (i ≤ k) × (k < j) × (at k <ℚ t) × (t ≤ℚ at (suc k)) → (k : ℕ) × (i ≤ k) × (k < suc j) × (at k <ℚ t) × (t ≤ℚ at (suc k))
    step r = (r.0, r.1, omega (arith, r.2), r.3, r.4)

    go : (i < j → at i <ℚ t → t ≤ℚ at j → (k : ℕ) × (i ≤ k) × (k < j) × (at k <ℚ t) × (t ≤ℚ at (suc k))) → (t ≤ℚ at j) ⊎ (at j <ℚ t) → (k : ℕ) × (i ≤ k) × (k < suc j) × (at k <ℚ t) × (t ≤ℚ at (suc k))
    go r (inr b) = (j, omega arith, omega arith, b, m)
    go r (inl b) = elim (dec_lt i j) [ yes p ↦ step (r p l b) | no p ↦ absurd (lt_le_absurd (at i) t l (subst (λ x. t ≤ℚ at x) (same p) b)) ]
      where
        same : (i < j → ⊥) → j ≡ i
        same p = omega arith

abbrev pub BothEnds : TaskParts → Plan → Condition → ℕ → Type 0
BothEnds task plan c k = IsTrue (holds c (state_after task plan k)) × IsTrue (holds c (state_before task plan (suc k)))

-- at a happening after the first, the states by time are the states by number
pub before-at : (task : TaskParts) (plan : Plan) (k : ℕ) → suc k < count task plan → time_of task plan k <ℚ time_of task plan (suc k) → before task plan (time_of task plan (suc k)) ≡ state_before task plan (suc k)
unfolding reached
before-at task plan k n h = before-between task plan k (time_of task plan (suc k)) (omega arith) h (λ _. eq_le (time_of task plan (suc k)) (time_of task plan (suc k)) refl)

pub after-at : (task : TaskParts) (plan : Plan) (k : ℕ) → suc k < count task plan → time_of task plan k <ℚ time_of task plan (suc k) → after task plan (time_of task plan (suc k)) ≡ state_after task plan (suc k)
unfolding after
after-at task plan k n h = ap (λ s. happen task (steps_at task plan (time_of task plan (suc k))) s) (before-at task plan k n h)

pub over_segments : (task : TaskParts) (plan : Plan) (c : Condition) (i j : ℕ) → IsFormed task plan → i < j → j < count task plan
    → ((k : ℕ) → i ≤ k → k < j → BothEnds task plan c k) → HoldsWithin task plan c (time_of task plan i) (time_of task plan j)
over_segments task plan c i j formed h n f t l m = go (locate (time_of task plan) t i j h l (lt_le t (time_of task plan j) m))
  where
    next : (k : ℕ) → k < j → time_of task plan (suc k) ≡ t → suc k < j
    next k b e = elim (dec_lt (suc k) j) [ yes p ↦ p | no p ↦ absurd (lt_irrefl t (subst (λ x. t <ℚ x) (ap (time_of task plan) (last p b) ∙ e) m)) ]
      where
        last : (suc k < j → ⊥) → k < j → j ≡ suc k
        last p b = omega arith

    there : (k : ℕ) → i ≤ k → k < j → time_of task plan k <ℚ t → time_of task plan (suc k) ≡ t → IsTrue (holds c (before task plan t)) × IsTrue (holds c (after task plan t))
    there k a b u e = subst (λ x. IsTrue (holds c (before task plan x)) × IsTrue (holds c (after task plan x))) e (
      subst (λ s. IsTrue (holds c s)) (sym (before-at task plan k (omega arith) (subst (λ x. time_of task plan k <ℚ x) (sym e) u))) (f k a b).1,
      subst (λ s. IsTrue (holds c s)) (sym (after-at task plan k (omega arith) (subst (λ x. time_of task plan k <ℚ x) (sym e) u))) (f (suc k) (omega arith) (next k b e)).0,
    )

    go : (k : ℕ) × (i ≤ k) × (k < j) × (time_of task plan k <ℚ t) × (t ≤ℚ time_of task plan (suc k)) → IsTrue (holds c (before task plan t)) × IsTrue (holds c (after task plan t))
    go r = ⊎_elim (λ e. there r.0 r.1 r.2 r.3 (le_antisymm (time_of task plan (suc r.0)) t e r.4)) (λ e. (segment task plan r.0 c (omega (arith, r.2)) formed).1 (f r.0 r.1 r.2) t r.3 e) (le_or_gt (time_of task plan (suc r.0)) t)
