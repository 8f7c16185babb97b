-- Reciprocals and quotients.
use Rattle.std.proofs.Common.{◌≡◌, ℕ, zero, suc, ◌*◌, ◌<◌, refl, sym, ◌∙◌, ap, arith, [], ◌∷◌}
use Rattle.std.proofs.Math.IntN.{ℤ, pos, ◌*ℤ◌}
use Rattle.rational.specs.Rational.{ℚ, ratio, whole, zeroℚ, oneℚ, ◌*ℚ◌, inverse, ◌<ℚ◌}
use Rattle.rational.proofs.Ring.{minus, ◌⊗◌, ◌⊖◌, num, ◌≐◌, law, combine}
use Rattle.rational.proofs.Integers.{ℤ_ring}
use Rattle.rational.proofs.Fractions.{equal_ratios}
use Rattle.rational.proofs.Field.{ℚ_ring, mul-ratio, zero_mul}
use Rattle.rational.proofs.Order.{mul-inverse, whole_positive}
use Rattle.rational.proofs.Inequalities.{positive_not_zero}

-- a factor that is not 0 comes off both sides
pub mul-cancel : (a b c : ℚ) → ¬ (a ≡ zeroℚ) → a *ℚ b ≡ a *ℚ c → b ≡ c
mul-cancel a b c n e = combine ℚ_ring (a ∷ b ∷ c ∷ inverse a ∷ []) (λ a b c i. record { from = (i, a ⊗ b ≐ a ⊗ c) ∷ (minus (b ⊖ c), a ⊗ i ≐ num 1) ∷ []; goal = b ≐ c }) (e, (mul-inverse a n, tt)) refl

-- what gives 1 with a number is its reciprocal
pub inverse-unique : (a b : ℚ) → a *ℚ b ≡ oneℚ → b ≡ inverse a
inverse-unique a b e = mul-cancel a b (inverse a) not_zero (e ∙ sym (mul-inverse a not_zero))
  where
    not_zero : ¬ (a ≡ zeroℚ)
    not_zero z = positive_not_zero oneℚ (whole_positive 0) (sym e ∙ ap (λ x. x *ℚ b) z ∙ zero_mul b)

pub inverse-inverse : (a : ℚ) → ¬ (a ≡ zeroℚ) → inverse (inverse a) ≡ a
inverse-inverse a n = sym (inverse-unique (inverse a) a (law ℚ_ring (a ∷ inverse a ∷ []) (λ a i. i ⊗ a ≐ a ⊗ i) refl ∙ mul-inverse a n))

whole-times_ratio : (d : ℕ) (n : ℤ) → 0 < d → whole (pos d) *ℚ ratio n d ≡ whole n
unfolding whole
whole-times_ratio d n h = mul-ratio (pos d) 1 n d (omega arith) h
    ∙ equal_ratios (pos d *ℤ n) (1 * d) n 1 (omega arith) (omega arith) (law ℤ_ring (pos d ∷ n ∷ []) (λ d n. d ⊗ n ⊗ num 1 ≐ n ⊗ (num 1 ⊗ d)) refl)

-- a fraction is its numerator times the reciprocal of its denominator
pub ratio-is : (n : ℤ) (d : ℕ) → 0 < d → ratio n d ≡ whole n *ℚ inverse (whole (pos d))
ratio-is n d h = mul-cancel (whole (pos d)) (ratio n d) (whole n *ℚ inverse (whole (pos d))) not_zero
    (whole-times_ratio d n h ∙ sym (combine ℚ_ring (whole (pos d) ∷ whole n ∷ inverse (whole (pos d)) ∷ []) (λ d n i. record { from = (n, d ⊗ i ≐ num 1) ∷ []; goal = d ⊗ (n ⊗ i) ≐ n }) (mul-inverse (whole (pos d)) not_zero, tt) refl))
  where
    positive : (k : ℕ) → 0 < k → zeroℚ <ℚ whole (pos k)
    positive zero l = absurd (omega arith)
    positive (suc k) l = whole_positive k

    not_zero : ¬ (whole (pos d) ≡ zeroℚ)
    not_zero = positive_not_zero (whole (pos d)) (positive d h)
