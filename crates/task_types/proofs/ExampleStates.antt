-- The states of small plans.
use Rattle.std.proofs.Common.{◌≡◌, refl, sym, ap, subst, ◌∙◌, Bool, true, false, cond, ◌&&◌, [], ◌∷◌, arith}
use Rattle.std.specs.Prelude.{pos, negsuc, ◌↔◌, IsTrue}
use Rattle.rational.specs.Gcd.{gcd}
use Rattle.rational.specs.Rational.{ℚ, zeroℚ, ratio, whole, ◌+ℚ◌, ◌*ℚ◌, neg_ℚ, cmp_ℚ, ◌<ℚ◌, ◌≤ℚ◌}
use Rattle.rational.proofs.Order.{lt_le, ℚ_ordered}
use Rattle.rational.proofs.Ring.{◌⊕◌, ◌⊗◌, minus, num, ◌≐◌, ◌≼◌}
use Rattle.rational.proofs.Solve.{linear as linearly, ◌⊢◌}
use Rattle.exact_lin.specs.Forms.{LinearForm}
use Rattle.task_types.specs.Tests.{◌≤?◌}
use Rattle.task_types.specs.State.{State, value, holds}
use Rattle.task_types.specs.Plan.{happenings, action_of}
use Rattle.task_types.specs.Course.{initial, rate, moved, happen, reached, before, after, state_after}
use Rattle.task_types.specs.Examples.{n, tank, gate, lasting, fill, done, fact_fails}
use Rattle.task_types.specs.ExampleStates.{StatesComeOut}
use Rattle.task_types.proofs.Comparisons.{le_in, le_out}
use Rattle.task_types.proofs.Segment.{value-moved, slope}
use Rattle.task_types.proofs.Instants.{before-between}
use Rattle.task_types.proofs.Lines.{grown}
use Rattle.task_types.proofs.Truths.{tree_holds-is_at, tree_holds-and, tree_holds-or}

-- a condition of one comparison
holds_one : (form : LinearForm) (s : State) → holds (record { literals = []; comparisons = form ∷ [] }) s ≡ (zeroℚ ≤? value form s.fluents)
unfolding holds
holds_one form s = and_true (zeroℚ ≤? value form s.fluents)
  where
    and_true : (b : Bool) → (b && true) ≡ b
    and_true true = refl
    and_true false = refl

-- the room that is left in the tank from level 1
abbrev room : LinearForm
room = record { constant = n 10; terms = (0, ratio (negsuc 0) 1) ∷ [] }

room_at : (t : ℚ) → n 0 <ℚ t → t <ℚ n 5 → value room (before (tank (n 1)) fill t).fluents ≡ whole (pos 9) +ℚ neg_ℚ (whole (pos 2)) *ℚ (t +ℚ neg_ℚ (whole (pos 0)))
unfolding gcd ratio whole ◌+ℚ◌ ◌*ℚ◌ neg_ℚ cmp_ℚ value happenings initial rate moved happen reached before after
room_at t h k = ap (λ (s : State). value room s.fluents) (before-between (tank (n 1)) fill 0 t (omega arith) h (λ _. lt_le t (n 5) k))
    ∙ value-moved (tank (n 1)) fill (n 0) t (state_after (tank (n 1)) fill 0) room
    ∙ ap (λ b. grown (value room (state_after (tank (n 1)) fill 0).fluents) (slope (tank (n 1)) (cond b (lasting 0 (n 0) (n 5) 1 ∷ []) []) room) (n 0) t) (le_in t (n 5) (lt_le t (n 5) k))

-- the room is at least 0 exactly up to 9/2
room_until : (t : ℚ) → (zeroℚ ≤ℚ (whole (pos 9) +ℚ neg_ℚ (whole (pos 2)) *ℚ (t +ℚ neg_ℚ (whole (pos 0))))) ↔ (t ≤ℚ ratio (pos 9) 2)
unfolding gcd ratio whole ◌+ℚ◌
room_until t = (
  λ h. linearly ℚ_ordered (t ∷ ratio (pos 9) 2 ∷ []) (λ t h. (num 0 ≼ num 9 ⊕ minus (num 2) ⊗ (t ⊕ minus (num 0)) ∷ h ⊕ h ≐ num 9 ∷ []) ⊢ t ≼ h) (h, (nine_halves, tt)) refl,
  λ h. linearly ℚ_ordered (t ∷ ratio (pos 9) 2 ∷ []) (λ t h. (t ≼ h ∷ h ⊕ h ≐ num 9 ∷ []) ⊢ num 0 ≼ num 9 ⊕ minus (num 2) ⊗ (t ⊕ minus (num 0))) (h, (nine_halves, tt)) refl,
)
  where
    nine_halves : ratio (pos 9) 2 +ℚ ratio (pos 9) 2 ≡ whole (pos 9)
    nine_halves = refl

over_after : (t : ℚ) → n 0 <ℚ t → t <ℚ n 5 → IsTrue (holds (action_of (tank (n 1)) 0).over_all (before (tank (n 1)) fill t)) ↔ (t ≤ℚ ratio (pos 9) 2)
over_after t h k = (
  λ e. (room_until t).0 (subst (λ q. zeroℚ ≤ℚ q) (room_at t h k) (le_out zeroℚ (value room (before (tank (n 1)) fill t).fluents) (sym (holds_one room (before (tank (n 1)) fill t)) ∙ e))),
  λ l. holds_one room (before (tank (n 1)) fill t) ∙ le_in zeroℚ (value room (before (tank (n 1)) fill t).fluents) (subst (λ q. zeroℚ ≤ℚ q) (sym (room_at t h k)) ((room_until t).1 l)),
)

pub states_come_out : StatesComeOut
unfolding gcd ratio whole ◌+ℚ◌ ◌*ℚ◌ neg_ℚ cmp_ℚ value holds happenings initial rate moved happen reached before after
states_come_out = record {
  rates_add = refl;
  over_after = over_after;
  moments = refl;
  timed_moments = refl;
  plan_steps = refl;
  added_last = refl;
  last_counts = refl;
  raised_after = refl;
  one_of_two = tree_holds-or (done ∷ fact_fails 0 ∷ []) (initial gate).facts ∙ simp tree_holds-is_at;
  not_both = tree_holds-and (done ∷ fact_fails 0 ∷ []) (initial gate).facts ∙ simp tree_holds-is_at;
}
