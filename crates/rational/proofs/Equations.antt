-- Solving a linear equation for one of its unknowns.
use Rattle.std.proofs.Common.{◌≡◌, [], ◌∷◌, refl}
use Rattle.rational.specs.Rational.{ℚ, zeroℚ, ◌+ℚ◌, ◌*ℚ◌, ◌-ℚ◌, inverse}
use Rattle.rational.proofs.Ring.{minus, ◌⊕◌, ◌⊗◌, ◌⊖◌, num, ◌≐◌, combine}
use Rattle.rational.proofs.Field.{ℚ_ring}
use Rattle.rational.proofs.Order.{mul-inverse}

-- y = c + a x + rest says x = (y - c - rest) / a
pub pivot_out : (a c x y rest : ℚ) → ¬ (a ≡ zeroℚ) → y ≡ c +ℚ a *ℚ x +ℚ rest → x ≡ inverse a *ℚ (y -ℚ c -ℚ rest)
pivot_out a c x y rest n h = combine ℚ_ring (a ∷ c ∷ x ∷ y ∷ rest ∷ inverse a ∷ [])
    (λ a c x y rest i. record { from = (minus i, y ≐ c ⊕ a ⊗ x ⊕ rest) ∷ (minus x, a ⊗ i ≐ num 1) ∷ []; goal = x ≐ i ⊗ (y ⊖ c ⊖ rest) })
    (h, (mul-inverse a n, tt)) refl

-- and the other way round
pub pivot_in : (a c x y rest : ℚ) → ¬ (a ≡ zeroℚ) → x ≡ inverse a *ℚ (y -ℚ c -ℚ rest) → y ≡ c +ℚ a *ℚ x +ℚ rest
pivot_in a c x y rest n h = combine ℚ_ring (a ∷ c ∷ x ∷ y ∷ rest ∷ inverse a ∷ [])
    (λ a c x y rest i. record { from = (minus a, x ≐ i ⊗ (y ⊖ c ⊖ rest)) ∷ (minus (y ⊖ c ⊖ rest), a ⊗ i ≐ num 1) ∷ []; goal = y ≐ c ⊕ a ⊗ x ⊕ rest })
    (h, (mul-inverse a n, tt)) refl
