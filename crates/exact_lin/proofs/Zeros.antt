-- The test for 0.
use Rattle.std.proofs.lemmas.Bool.Decides.{nat_tests}
use Rattle.std.proofs.Math.IntN.{nat_abs}
use Rattle.std.proofs.Common.{◌≡◌, ◌≢◌, ℕ, zero, suc, true, false, nat_eq, refl, ◌∙◌, ap, subst, arith, ℤ, pos, negsuc}
use Rattle.rational.specs.Rational.{ℚ, whole, zeroℚ, ◌<ℚ◌}
use Rattle.rational.proofs.Fractions.{ratio-num}
use Rattle.rational.proofs.Order.{lt_irrefl}
use Rattle.exact_lin.specs.Reckoning.{wide_limit}
use Rattle.exact_lin.specs.Forms.{is_zero}
use Rattle.exact_lin.proofs.Numbers.{zero_num, whole-fraction}

pub is_zero-zero : (q : ℚ) → q ≡ zeroℚ → is_zero q ≡ true
unfolding whole
is_zero-zero q e = go q.num (ap (λ (r : ℚ). r.num) e ∙ ratio-num (pos 0) 1 (whole-fraction wide_limit (pos 0) (omega arith) (omega arith)).lowest)
  where
    go : (z : ℤ) → z ≡ pos 0 → nat_eq (nat_abs z) 0 ≡ true
    go (pos zero) e = refl
    go (pos (suc n)) e = cc
    go (negsuc n) e = cc

pub is_zero-other : (q : ℚ) → q ≢ zeroℚ → is_zero q ≡ false
is_zero-other q n = go q.num (λ e. n (zero_num q e))
  where
    not_zero : (m : ℕ) → nat_eq (suc m) 0 ≡ false
    not_zero m = grind (arith, nat_tests)

    go : (z : ℤ) → ¬ (z ≡ pos 0) → nat_eq (nat_abs z) 0 ≡ false
    go (pos zero) n = absurd (n refl)
    go (pos (suc m)) n = not_zero m
    go (negsuc m) n = not_zero m

pub lt-other : (q : ℚ) → q <ℚ zeroℚ → q ≢ zeroℚ
lt-other q h e = lt_irrefl zeroℚ (subst (λ (r : ℚ). r <ℚ zeroℚ) e h)

pub gt-other : (q : ℚ) → zeroℚ <ℚ q → q ≢ zeroℚ
gt-other q h e = lt_irrefl zeroℚ (subst (λ (r : ℚ). zeroℚ <ℚ r) e h)

pub zero-is_zero : (q : ℚ) → is_zero q ≡ true → q ≡ zeroℚ
zero-is_zero q e = zero_num q (go q.num e)
  where
    not_zero : (m : ℕ) → nat_eq (suc m) 0 ≡ true → ⊥
    not_zero m e = grind (arith, nat_tests)

    go : (z : ℤ) → nat_eq (nat_abs z) 0 ≡ true → z ≡ pos 0
    go (pos zero) e = refl
    go (pos (suc m)) e = absurd (not_zero m e)
    go (negsuc m) e = absurd (not_zero m e)
