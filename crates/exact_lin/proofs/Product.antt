-- The reckoning of a product gives the product, in lowest both_terms.
use Rattle.std.proofs.Common.{◌≡◌, ℕ, zero, suc, ◌*◌, ◌/◌, ◌<◌, refl, sym, ◌∙◌, ap, ap₂, subst, arith, T, [], ◌∷◌}
use Rattle.std.proofs.Math.IntN.{ℤ, pos, ◌*ℤ◌, nat_abs}
use Rattle.std.specs.Int.{IsGcd}
use Rattle.std.proofs.lemmas.Int.{unsigned_abs-mul}
use native.Mathlib.Nat.{div-mul_cancel, mul-pos}
use Rattle.rational.specs.Gcd.{gcd}
use Rattle.rational.specs.Divisors.{gcd-is, gcd_pos, lowest}
use Rattle.rational.specs.Lowest.{over, over-times, abs-over, is_lowest, lowest_out, lowest_in}
use Rattle.rational.specs.Rational.{ℚ, ratio, ◌*ℚ◌}
use Rattle.rational.proofs.Ring.{minus, combine, ◌≐◌, ◌⊗◌}
use Rattle.rational.proofs.Integers.{ℤ_ring}
use Rattle.rational.proofs.Fractions.{den_pos, equal_ratios}
use Rattle.rational.proofs.Coprime.{Coprime, coprime_both, coprime_swap, coprime-mul, quotient-divides}
use Rattle.exact_lin.specs.Reckoning.{product_numerator, product_denominator}

pub div-pos : (b h : ℕ) → 0 < b → b / h * h ≡ b → 0 < b / h
div-pos b h p e = go (b / h) e
  where
    go : (k : ℕ) → k * h ≡ b → 0 < k
    go zero e = absurd (omega arith)
    go (suc k) e = omega arith

module _ (q r : ℚ) where
  pub denominator_pos : 0 < product_denominator q.num q.den r.num r.den
  denominator_pos = mul-pos
      (div-pos q.den (gcd (nat_abs r.num) q.den) (den_pos q) (div-mul_cancel _ (gcd-is (nat_abs r.num) q.den).1))
      (div-pos r.den (gcd (nat_abs q.num) r.den) (den_pos r) (div-mul_cancel _ (gcd-is (nat_abs q.num) r.den).1))

  coprimes : (a b c d g h : ℕ) → Coprime a b → Coprime c d → 0 < g → 0 < h → IsGcd a d g → IsGcd c b h → Coprime ((a / g) * (c / h)) ((b / h) * (d / g))
  coprimes a b c d g h i j k l m n = coprime-mul (a / g) (c / h) _
      (coprime_swap _ _ (coprime-mul (b / h) (d / g) (a / g) (coprime_swap _ _ (coprime_both a b _ _ (quotient-divides a g m.0) (quotient-divides b h n.1) i)) (coprime_swap _ _ (lowest a d g k m))))
      (coprime_swap _ _ (coprime-mul (b / h) (d / g) (c / h) (coprime_swap _ _ (lowest c b h l n)) (coprime_swap _ _ (coprime_both c d _ _ (quotient-divides c h n.0) (quotient-divides d g m.1) j))))

  pub product-lowest : T (is_lowest (product_numerator q.num q.den r.num r.den) (product_denominator q.num q.den r.num r.den))
  product-lowest = lowest_in (product_numerator q.num q.den r.num r.den) (product_denominator q.num q.den r.num r.den) denominator_pos (subst (λ (n : ℕ). IsGcd n (product_denominator q.num q.den r.num r.den) 1) (sym sizes)
      (coprimes (nat_abs q.num) q.den (nat_abs r.num) r.den (gcd (nat_abs q.num) r.den) (gcd (nat_abs r.num) q.den)
      (lowest_out q.num q.den q.lowest).1 (lowest_out r.num r.den r.lowest).1 (gcd_pos (nat_abs q.num) r.den (den_pos r)) (gcd_pos (nat_abs r.num) q.den (den_pos q)) (gcd-is (nat_abs q.num) r.den) (gcd-is (nat_abs r.num) q.den)))
    where
      sizes : nat_abs (product_numerator q.num q.den r.num r.den) ≡ (nat_abs q.num / gcd (nat_abs q.num) r.den) * (nat_abs r.num / gcd (nat_abs r.num) q.den)
      sizes = unsigned_abs-mul (over q.num (gcd (nat_abs q.num) r.den)) (over r.num (gcd (nat_abs r.num) q.den)) ∙ ap₂ ◌*◌ (abs-over q.num _) (abs-over r.num _)

  value : (x z n m : ℤ) (b d g h bh dg : ℕ) → x *ℤ pos g ≡ n → z *ℤ pos h ≡ m → bh * h ≡ b → dg * g ≡ d → (x *ℤ z) *ℤ pos (b * d) ≡ (n *ℤ m) *ℤ pos (bh * dg)
  value x z n m b d g h bh dg e f i j = combine ℤ_ring (x ∷ z ∷ n ∷ m ∷ pos b ∷ pos d ∷ pos g ∷ pos h ∷ pos bh ∷ pos dg ∷ [])
      (λ x z n m b d g h bh dg. record {
        goal = (x ⊗ z) ⊗ (b ⊗ d) ≐ (n ⊗ m) ⊗ (bh ⊗ dg);
        from = ((bh ⊗ dg) ⊗ (z ⊗ h), x ⊗ g ≐ n) ∷ ((bh ⊗ dg) ⊗ n, z ⊗ h ≐ m) ∷ (minus ((x ⊗ z) ⊗ d), bh ⊗ h ≐ b) ∷ (minus ((x ⊗ z) ⊗ (bh ⊗ h)), dg ⊗ g ≐ d) ∷ [];
      })
      (e, (f, (ap pos i, (ap pos j, tt)))) refl

  pub product-value : ratio (product_numerator q.num q.den r.num r.den) (product_denominator q.num q.den r.num r.den) ≡ q *ℚ r
  unfolding ◌*ℚ◌
  product-value = equal_ratios _ _ _ _ denominator_pos (mul-pos (den_pos q) (den_pos r))
      (value _ _ q.num r.num q.den r.den (gcd (nat_abs q.num) r.den) (gcd (nat_abs r.num) q.den) _ _ (over-times q.num r.den) (over-times r.num q.den)
      (div-mul_cancel _ (gcd-is (nat_abs r.num) q.den).1) (div-mul_cancel _ (gcd-is (nat_abs q.num) r.den).1))
