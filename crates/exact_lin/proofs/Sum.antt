-- The reckoning of a sum gives the sum, in lowest both_terms.
use Rattle.std.proofs.Common.{◌≡◌, ℕ, zero, suc, ◌+◌, ◌-◌, ◌*◌, ◌/◌, ◌<◌, refl, sym, ◌∙◌, ap, subst, arith, T, [], ◌∷◌}
use Rattle.std.proofs.Math.IntN.{ℤ, pos, negsuc, ◌*ℤ◌, ◌+ℤ◌, neg_ℤ, nat_abs, +ℤ_comm}
use Rattle.std.specs.Int.{IsGcd}
use Rattle.std.proofs.lemmas.Int.{unsigned_abs-mul}
use Prim.Native.Nat.{◌∣◌}
use native.Mathlib.Nat.{div-mul_cancel, mul-pos, dvd-add, dvd-sub, dvd-zero, dvd_trans, dvd_refl, dvd-mul_left_of_dvd, one-dvd, eq_of_mul-eq-mul_right}
use borrow.Author.Differences.{up, down, abs_is, sum_is_lem}
use Rattle.rational.specs.Gcd.{gcd}
use Rattle.rational.specs.Divisors.{gcd-is, gcd_pos, lowest, gauss}
use Rattle.rational.specs.Lowest.{over-times, abs-over, is_lowest, lowest_out, lowest_in}
use Rattle.rational.specs.Rational.{ℚ, ratio, ◌+ℚ◌}
use Rattle.rational.proofs.Ring.{minus, law, combine, ◌≐◌, ◌⊗◌, ◌⊕◌, ◌⊖◌}
use Rattle.rational.proofs.Integers.{ℤ_ring}
use Rattle.rational.proofs.Fractions.{den_pos, equal_ratios}
use Rattle.rational.proofs.Coprime.{Coprime, coprime_left, coprime_both, coprime_swap, coprime-mul, quotient-divides}
use Rattle.exact_lin.specs.Reckoning.{sum_numerator, sum_denominator, both_terms, shared_factor}
use Rattle.exact_lin.proofs.Product.{div-pos}

divides-up : (k : ℕ) (x : ℤ) → k ∣ nat_abs x → (k ∣ up x) × (k ∣ down x)
divides-up k (pos n) h = (h, dvd-zero k)
divides-up k (negsuc n) h = (dvd-zero k, h)

divides-sum : (k : ℕ) (x y : ℤ) → k ∣ nat_abs x → k ∣ nat_abs y → k ∣ nat_abs (x +ℤ y)
divides-sum k x y h i = subst (λ (n : ℕ). k ∣ n) (sym size)
    (dvd-add k (dvd-sub k (dvd-add k (divides-up k x h).0 (divides-up k y i).0) (dvd-add k (divides-up k x h).1 (divides-up k y i).1))
    (dvd-sub k (dvd-add k (divides-up k x h).1 (divides-up k y i).1) (dvd-add k (divides-up k x h).0 (divides-up k y i).0)))
  where
    size : nat_abs (x +ℤ y) ≡ ((up x + up y) - (down x + down y)) + ((down x + down y) - (up x + up y))
    size = omega (arith, abs_is (x +ℤ y), sum_is_lem x y)

abs-neg : (x : ℤ) → nat_abs (neg_ℤ x) ≡ nat_abs x
abs-neg (pos zero) = refl
abs-neg (pos (suc n)) = refl
abs-neg (negsuc n) = refl

divides-rest : (k : ℕ) (x y : ℤ) → k ∣ nat_abs (x +ℤ y) → k ∣ nat_abs y → k ∣ nat_abs x
divides-rest k x y h i = subst (λ z. k ∣ nat_abs z) (law ℤ_ring (x ∷ y ∷ []) (λ x y. (x ⊕ y) ⊖ y ≐ x) refl)
    (divides-sum k (x +ℤ y) (neg_ℤ y) h (subst (λ (n : ℕ). k ∣ n) (sym (abs-neg y)) i))

-- the sum of the two both_terms has nothing in common with what stands over one of them
coprime-term : (a c : ℤ) (bg dg b : ℕ) → bg ∣ b → Coprime (nat_abs a) b → Coprime bg dg → Coprime (nat_abs (a *ℤ pos dg +ℤ c *ℤ pos bg)) bg
coprime-term a c bg dg b h i j = (
  one-dvd _,
  one-dvd bg,
  λ k p q. j.2 k q
      (gauss k (nat_abs a) dg (coprime_swap (nat_abs a) k (coprime_both (nat_abs a) b (nat_abs a) k (dvd_refl (nat_abs a)) (dvd_trans k q h) i))
      (subst (λ (n : ℕ). k ∣ n) (unsigned_abs-mul a (pos dg))
      (divides-rest k (a *ℤ pos dg) (c *ℤ pos bg) p (subst (λ (n : ℕ). k ∣ n) (sym (unsigned_abs-mul c (pos bg))) (dvd-mul_left_of_dvd k q (nat_abs c)))))),
)

split-over : (d dg g h gh dh : ℕ) → 0 < h → dg * g ≡ d → gh * h ≡ g → dh * h ≡ d → dh ≡ dg * gh
split-over d dg g h gh dh p e f i = eq_of_mul-eq-mul_right h p dh (dg * gh) (i ∙ sym e ∙ ap (λ (n : ℕ). dg * n) (sym f) ∙ omega arith)

value : (t a c : ℤ) (b d g h bg dg dh : ℕ) → t *ℤ pos h ≡ a *ℤ pos dg +ℤ c *ℤ pos bg → bg * g ≡ b → dg * g ≡ d → dh * h ≡ d
    → t *ℤ pos (b * d) ≡ (a *ℤ pos d +ℤ c *ℤ pos b) *ℤ pos (bg * dh)
value t a c b d g h bg dg dh e f i j = combine ℤ_ring (t ∷ a ∷ c ∷ pos b ∷ pos d ∷ pos g ∷ pos h ∷ pos bg ∷ pos dg ∷ pos dh ∷ [])
    (λ t a c b d g h bg dg dh. record {
      goal = t ⊗ (b ⊗ d) ≐ (a ⊗ d ⊕ c ⊗ b) ⊗ (bg ⊗ dh);
      from = ((bg ⊗ g) ⊗ dh, t ⊗ h ≐ a ⊗ dg ⊕ c ⊗ bg) ∷ (minus (t ⊗ d) ⊕ (c ⊗ bg) ⊗ dh, bg ⊗ g ≐ b) ∷ ((a ⊗ bg) ⊗ dh, dg ⊗ g ≐ d) ∷ (minus ((t ⊗ bg) ⊗ g), dh ⊗ h ≐ d) ∷ [];
    })
    (e, (ap pos f, (ap pos i, (ap pos j, tt)))) refl

module _ (q r : ℚ) where
  common-divides : shared_factor q.num q.den r.num r.den ∣ r.den
  common-divides = dvd_trans (shared_factor q.num q.den r.num r.den) (gcd-is (nat_abs (both_terms q.num q.den r.num r.den)) (gcd q.den r.den)).1 (gcd-is q.den r.den).1

  common_pos : 0 < shared_factor q.num q.den r.num r.den
  common_pos = gcd_pos (nat_abs (both_terms q.num q.den r.num r.den)) (gcd q.den r.den) (gcd_pos q.den r.den (den_pos r))

  pub sum_denominator_pos : 0 < sum_denominator q.num q.den r.num r.den
  sum_denominator_pos = mul-pos
      (div-pos q.den (gcd q.den r.den) (den_pos q) (div-mul_cancel _ (gcd-is q.den r.den).0))
      (div-pos r.den (shared_factor q.num q.den r.num r.den) (den_pos r) (div-mul_cancel _ common-divides))

  pub sum-value : ratio (sum_numerator q.num q.den r.num r.den) (sum_denominator q.num q.den r.num r.den) ≡ q +ℚ r
  unfolding ◌+ℚ◌
  sum-value = equal_ratios _ _ _ _ sum_denominator_pos (mul-pos (den_pos q) (den_pos r))
      (value (sum_numerator q.num q.den r.num r.den) q.num r.num q.den r.den (gcd q.den r.den) (shared_factor q.num q.den r.num r.den) (q.den / gcd q.den r.den) (r.den / gcd q.den r.den) (r.den / shared_factor q.num q.den r.num r.den)
      (over-times (both_terms q.num q.den r.num r.den) (gcd q.den r.den))
      (div-mul_cancel _ (gcd-is q.den r.den).0) (div-mul_cancel _ (gcd-is q.den r.den).1) (div-mul_cancel _ common-divides))

  coprimes : (s bg dg g h dh : ℕ) → Coprime s bg → Coprime s dg → 0 < h → IsGcd s g h → dh ≡ dg * (g / h) → Coprime (s / h) (bg * dh)
  coprimes s bg dg g h dh i j p k e = coprime_swap _ _ (coprime-mul bg dh (s / h) (less bg i)
      (subst (λ (n : ℕ). Coprime n (s / h)) (sym e) (coprime-mul dg (g / h) (s / h) (less dg j) (coprime_swap _ _ (lowest s g h p k)))))
    where
      less : (m : ℕ) → Coprime s m → Coprime m (s / h)
      less m l = coprime_swap (s / h) m (coprime_left s m (s / h) (quotient-divides s h k.0) l)

  pub sum-lowest : T (is_lowest (sum_numerator q.num q.den r.num r.den) (sum_denominator q.num q.den r.num r.den))
  sum-lowest = lowest_in (sum_numerator q.num q.den r.num r.den) (sum_denominator q.num q.den r.num r.den) sum_denominator_pos (subst (λ (n : ℕ). IsGcd n (sum_denominator q.num q.den r.num r.den) 1) (sym (abs-over s h))
      (coprimes (nat_abs s) (q.den / g) (r.den / g) g h (r.den / h)
      (coprime-term q.num r.num (q.den / g) (r.den / g) q.den (quotient-divides q.den g (gcd-is q.den r.den).0) (lowest_out q.num q.den q.lowest).1 (lowest q.den r.den g gp (gcd-is q.den r.den)))
      (subst (λ z. Coprime (nat_abs z) (r.den / g)) (+ℤ_comm (r.num *ℤ pos (q.den / gcd q.den r.den)) (q.num *ℤ pos (r.den / gcd q.den r.den)))
      (coprime-term r.num q.num (r.den / g) (q.den / g) r.den (quotient-divides r.den g (gcd-is q.den r.den).1) (lowest_out r.num r.den r.lowest).1 (coprime_swap _ _ (lowest q.den r.den g gp (gcd-is q.den r.den)))))
      common_pos (gcd-is (nat_abs s) g)
      (split-over r.den (r.den / g) g h (g / h) (r.den / h) common_pos (div-mul_cancel _ (gcd-is q.den r.den).1) (div-mul_cancel _ (gcd-is (nat_abs s) g).1) (div-mul_cancel _ common-divides))))
    where
      s : ℤ
      s = both_terms q.num q.den r.num r.den

      g : ℕ
      g = gcd q.den r.den

      h : ℕ
      h = shared_factor q.num q.den r.num r.den

      gp : 0 < gcd q.den r.den
      gp = gcd_pos q.den r.den (den_pos r)
