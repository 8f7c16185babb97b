-- The first of the places that pass, found place by place.
use Rattle.std.proofs.Common.{◌≡◌, ℕ, ◌+◌, ◌<◌, ◌≤◌, ◌⊎◌, ⊎_elim, List, Option, Some, None, sym, subst, arith}
use Rattle.std.specs.Prelude.{MatchOption, IfSome}
use Rattle.lp_tableau.specs.Places.{IsFirst, FindsFirst, IsLesser}
use Rattle.lp_tableau.proofs.Writing.{last_or_before}

-- r is the better of the best so far and k
abbrev pub Chosen : (ℕ → ℕ → Type 0) → Option ℕ → ℕ → ℕ → Type 0
Chosen Before best k r = MatchOption best (r ≡ k) (λ b. ((r ≡ b) × Before b k) ⊎ ((r ≡ k) × Before k b))

module _ (Passes : ℕ → Type 0) (Before : ℕ → ℕ → Type 0) where
  pub FindsFirst-skip : (best : Option ℕ) (k : ℕ) → ¬ Passes k → FindsFirst Passes Before k best → FindsFirst Passes Before (k + 1) best
  FindsFirst-skip None k n f = λ i h p. ⊎_elim (λ (e : i ≡ k). n (subst Passes e p)) (λ m. f i m p) (last_or_before i k h)
  FindsFirst-skip (Some b) k n f = record { below = omega (arith, f.below); passes = f.passes; first = λ i h p. ⊎_elim (λ (e : i ≡ k). absurd (n (subst Passes e p))) (λ m. f.first i m p) (last_or_before i k h) }

  pub FindsFirst-take : ((i : ℕ) → Before i i) → ((i j k : ℕ) → Before i j → Before j k → Before i k)
      → (best : Option ℕ) (k r : ℕ) → Passes k → Chosen Before best k r → FindsFirst Passes Before k best → FindsFirst Passes Before (k + 1) (Some r)
  FindsFirst-take itself through None k r p c f = subst (λ (x : ℕ). IsFirst Passes Before (k + 1) x) (sym c)
      (record { below = omega arith; passes = p; first = λ i h q. ⊎_elim (λ (e : i ≡ k). subst (Before k) (sym e) (itself k)) (λ m. absurd (f i m q)) (last_or_before i k h) })
  FindsFirst-take itself through (Some b) k r p c f = ⊎_elim
      (λ w. subst (λ (x : ℕ). IsFirst Passes Before (k + 1) x) (sym w.0) (record { below = omega (arith, f.below); passes = f.passes; first = λ i h q. ⊎_elim (λ (e : i ≡ k). subst (Before b) (sym e) w.1) (λ m. f.first i m q) (last_or_before i k h) }))
      (λ w. subst (λ (x : ℕ). IsFirst Passes Before (k + 1) x) (sym w.0) (record { below = omega arith; passes = p; first = λ i h q. ⊎_elim (λ (e : i ≡ k). subst (Before k) (sym e) (itself k)) (λ m. through k b i w.1 (f.first i m q)) (last_or_before i k h) }))
      c

  pub FindsFirst-below : (best : Option ℕ) (k n : ℕ) → k ≤ n → FindsFirst Passes Before k best → IfSome best (λ b. b < n)
  FindsFirst-below None k n h f = tt
  FindsFirst-below (Some b) k n h f = omega (arith, f.below)

pub IsLesser-itself : (xs : List ℕ) (i : ℕ) → IsLesser xs i i
IsLesser-itself xs i = omega arith

pub IsLesser-through : (xs : List ℕ) (i j k : ℕ) → IsLesser xs i j → IsLesser xs j k → IsLesser xs i k
IsLesser-through xs i j k h l = omega (arith, h, l)

-- the place of least number, where the test passes
pub least-take : (Passes : ℕ → Type 0) (xs : List ℕ) (best : Option ℕ) (k r : ℕ) → Passes k → Chosen (IsLesser xs) best k r → FindsFirst Passes (IsLesser xs) k best → FindsFirst Passes (IsLesser xs) (k + 1) (Some r)
least-take Passes xs = FindsFirst-take Passes (IsLesser xs) (IsLesser-itself xs) (IsLesser-through xs)
