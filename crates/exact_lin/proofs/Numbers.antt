-- What signs, negatives, reciprocals and whole numbers are in parts.
use Rattle.std.proofs.Common.{◌≡◌, true, false, ◌≢◌, ℕ, zero, suc, ◌/◌, ◌<◌, ◌≤◌, ◌^◌, refl, sym, ◌∙◌, ap, ap₂, subst, arith, T, ltb, eqb, ◌&&◌, ℤ, pos, negsuc, ◌-ℤ◌, ◌*ℤ◌, ◌<ℤ◌, ◌≤ℤ◌}
use Rattle.std.proofs.Math.IntN.{neg_ℤ, nat_abs}
use Rattle.std.specs.Int.{IsGcd}
use Rattle.std.proofs.lemmas.Int.{ints}
use Rattle.std.proofs.lemmas.Nat.Gcd.{IsGcd-swap}
use native.Mathlib.Nat.{one-dvd, dvd_refl, div-le_self}
use mir.Val.{SFits, to_z, of_z}
use mir.Syntax.{w32, w128}
use mir.Facts.{to_z-of_z}
use lib.Signed.{lt_z}
use borrow.Author.Differences.{product_is, lt_out, below_in}
use Rattle.rational.specs.Gcd.{gcd}
use Rattle.rational.specs.Lowest.{is_lowest, lowest_in, lowest_out, over, abs-over, divided-is_lowest}
use Rattle.rational.specs.Rational.{ℚ, ratio, whole, zeroℚ, neg_ℚ, inverse, reciprocal, ◌<ℚ◌}
use Rattle.rational.proofs.Fractions.{den_pos, ratio-parts, equal_ratios}
use Rattle.rational.proofs.Order.{lt_ratio_in, positive_in}
use Rattle.exact_lin.specs.Reckoning.{wide_limit, IsFraction, Within}
use Rattle.exact_lin.proofs.Parts.{wide, Made, made, back, back-is, back-unsigned, back-num, num-is, den-is}

one_pos : 0 < 1
one_pos = omega arith

-- ---- signs
pub negative_num : (q : ℚ) → q.num <ℤ pos 0 → q <ℚ zeroℚ
unfolding whole
negative_num q h = subst (λ (r : ℚ). r <ℚ ratio (pos 0) 1) (ratio-parts q)
    (lt_ratio_in q.num q.den (pos 0) 1 (den_pos q) one_pos (below_in _ _ (omega (arith, product_is (pos 0) (pos q.den), product_is q.num (pos 1), lt_out _ _ h))))

pub zero_num : (q : ℚ) → q.num ≡ pos 0 → q ≡ zeroℚ
unfolding whole
zero_num q e = sym (ratio-parts q) ∙ ap (λ (z : ℤ). ratio z q.den) e ∙ equal_ratios (pos 0) q.den (pos 0) 1 (den_pos q) one_pos (zeros q.den)
  where
    zeros : (d : ℕ) → pos 0 *ℤ pos 1 ≡ pos 0 *ℤ pos d
    zeros d = omega (arith, ints)

pub positive_num_in : (q : ℚ) → pos 0 <ℤ q.num → zeroℚ <ℚ q
positive_num_in q h = subst (λ (r : ℚ). zeroℚ <ℚ r) (ratio-parts q) (positive_in q.num q.den (den_pos q) h)

-- ---- negatives
abs-minus : (z : ℤ) → nat_abs (pos 0 -ℤ z) ≡ nat_abs z
abs-minus z = omega (arith, ints)

pub minus-is_neg : (z : ℤ) → pos 0 -ℤ z ≡ neg_ℤ z
minus-is_neg z = omega (arith, ints)

lowest_size : (n m : ℤ) (d : ℕ) → nat_abs m ≡ nat_abs n → T (is_lowest n d) → T (is_lowest m d)
lowest_size n m d e t = subst (λ (k : ℕ). T (ltb 0 d && eqb (gcd k d) 1)) (sym e) t

pub neg-parts : (n : ℤ) (d : ℕ) (q : ℚ) → IsFraction wide_limit n d → ratio n d ≡ q → ratio (back (pos 0 -ℤ back n)) d ≡ neg_ℚ q
unfolding neg_ℚ
neg-parts n d q i v = ap₂ ratio (back-is (pos 0 -ℤ back n) within ∙ minus-is_neg (back n) ∙ ap neg_ℤ (back-num n d q i v)) (den-is n d q i v)
  where
    within : Within wide_limit (pos 0 -ℤ back n)
    within = omega (arith, abs-minus (back n), ap nat_abs (back-is n i.numerator), i.numerator)

pub neg-fraction : {limit : ℕ} (n : ℤ) (d : ℕ) → IsFraction limit n d → IsFraction limit (pos 0 -ℤ n) d
neg-fraction n d i = record { lowest = lowest_size n (pos 0 -ℤ n) d (abs-minus n) i.lowest; numerator = omega (arith, abs-minus n, i.numerator); denominator = i.denominator }

-- ---- whole numbers
pub whole-fraction : (limit : ℕ) (z : ℤ) → 1 ≤ limit → Within limit z → IsFraction limit z 1
whole-fraction limit z l h = record { lowest = lowest_in z 1 one_pos (one-dvd _, dvd_refl 1, λ d p q. q); numerator = h; denominator = omega arith }

-- ---- reciprocals
pub turned-fraction : {limit : ℕ} (n : ℤ) (d k : ℕ) → IsFraction limit n d → k ≡ nat_abs n → 0 < k → IsFraction limit (pos d) k
turned-fraction n d k i e h = record {
  lowest = lowest_in (pos d) k h (subst (λ (m : ℕ). IsGcd d m 1) (sym e) (IsGcd-swap (nat_abs n) d 1 (lowest_out n d i.lowest).1));
  numerator = i.denominator;
  denominator = omega (arith, i.numerator);
}

pub inverse-positive : (q : ℚ) → pos 0 ≤ℤ q.num → inverse q ≡ ratio (pos q.den) (nat_abs q.num)
unfolding inverse reciprocal
inverse-positive q h = go q.num q.den h
  where
    go : (n : ℤ) (d : ℕ) → pos 0 ≤ℤ n → reciprocal n d ≡ ratio (pos d) (nat_abs n)
    go (pos n) d h = refl
    go (negsuc n) d h = absurd (omega (arith, ints))

pub inverse-negative : (q : ℚ) → q.num <ℤ pos 0 → inverse q ≡ ratio (neg_ℤ (pos q.den)) (nat_abs q.num)
unfolding inverse reciprocal
inverse-negative q h = go q.num q.den h
  where
    go : (n : ℤ) (d : ℕ) → n <ℤ pos 0 → reciprocal n d ≡ ratio (neg_ℤ (pos d)) (nat_abs n)
    go (pos n) d h = absurd (omega (arith, ints))
    go (negsuc n) d h = refl

-- ---- a fraction in lowest terms
pub divided-fraction : (n : ℤ) (d : ℕ) → 0 < d → Within wide_limit n → d ≤ wide_limit → IsFraction wide_limit (over n (gcd (nat_abs n) d)) (d / gcd (nat_abs n) d)
divided-fraction n d h w l = record { lowest = divided-is_lowest n d h; numerator = omega (arith, abs-over n (gcd (nat_abs n) d), div-le_self (nat_abs n) (gcd (nat_abs n) d)); denominator = omega (arith, div-le_self d (gcd (nat_abs n) d)) }

pub divided-ratio : (n : ℤ) (d : ℕ) → 0 < d → ratio (over n (gcd (nat_abs n) d)) (d / gcd (nat_abs n) d) ≡ ratio n d
unfolding ratio
divided-ratio n zero h = absurd (omega arith)
divided-ratio n (suc d) h = ratio-parts (ratio n (suc d))

-- ---- numbers of 32 bits
pub small-within : (limit : ℕ) → 2 ^ 31 ≤ limit → (z : ℤ) → SFits w32 z → Within limit z
small-within limit l (pos n) h = omega (arith, h.sfits)
small-within limit l (negsuc n) h = omega (arith, h.sfits)

pub small-back : (z : ℤ) → SFits w32 z → back (to_z w32 (of_z w32 z)) ≡ z
small-back z h = ap back (to_z-of_z h) ∙ back-is z (small-within wide_limit (omega arith) z h)

-- ---- tests against 0, as they stand in a goal
pub below_zero : (n : ℤ) (d : ℕ) (q : ℚ) → IsFraction wide_limit n d → ratio n d ≡ q → lt_z (back n) (pos 0) ≡ true → q.num <ℤ pos 0
below_zero n d q i v h = go q.num (subst (λ (z : ℤ). lt_z z (pos 0) ≡ true) (back-num n d q i v) h)
  where
    go : (z : ℤ) → lt_z z (pos 0) ≡ true → z <ℤ pos 0
    go z e = grind (arith, ints)

pub not_below_zero : (n : ℤ) (d : ℕ) (q : ℚ) → IsFraction wide_limit n d → ratio n d ≡ q → lt_z (back n) (pos 0) ≡ false → pos 0 ≤ℤ q.num
not_below_zero n d q i v h = go q.num (subst (λ (z : ℤ). lt_z z (pos 0) ≡ false) (back-num n d q i v) h)
  where
    go : (z : ℤ) → lt_z z (pos 0) ≡ false → pos 0 ≤ℤ z
    go z e = grind (arith, ints)

pub equals_zero : (n : ℤ) (d : ℕ) (q : ℚ) → IsFraction wide_limit n d → ratio n d ≡ q → of_z w128 n ≡ 0 → q.num ≡ pos 0
equals_zero n d q i v h = sym (back-num n d q i v) ∙ ap (to_z w128) h

pub above_zero : (n : ℤ) (d : ℕ) (q : ℚ) → IsFraction wide_limit n d → ratio n d ≡ q → lt_z (back n) (pos 0) ≡ false → ¬ (of_z w128 n ≡ 0) → pos 0 <ℤ q.num
above_zero n d q i v h k = go q.num (not_below_zero n d q i v h) (λ e. k (ap (of_z w128) (num-is n d q i v ∙ e)))
  where
    go : (z : ℤ) → pos 0 ≤ℤ z → ¬ (z ≡ pos 0) → pos 0 <ℤ z
    go z l n = omega (arith, ints)

-- ---- the reciprocal of a fraction
size-pos : (n : ℤ) (d : ℕ) (q : ℚ) (k : ℕ) → IsFraction wide_limit n d → ratio n d ≡ q → q ≢ zeroℚ → k ≡ nat_abs (back n) → 0 < k
size-pos n d q k i v ne e = go q.num k (λ z. ne (zero_num q z)) (e ∙ ap nat_abs (back-num n d q i v))
  where
    go : (z : ℤ) (k : ℕ) → ¬ (z ≡ pos 0) → k ≡ nat_abs z → 0 < k
    go (pos zero) k n e = absurd (n refl)
    go (pos (suc m)) k n e = omega (arith, e)
    go (negsuc m) k n e = omega (arith, e)

module _ (n : ℤ) (d k : ℕ) (q : ℚ) (i : IsFraction wide_limit n d) (v : ratio n d ≡ q) (ne : q ≢ zeroℚ) (e : k ≡ nat_abs (back n)) where
  turned : IsFraction wide_limit (pos d) k
  turned = turned-fraction n d k i (e ∙ ap nat_abs (back-is n i.numerator)) (size-pos n d q k i v ne e)

  den-back : to_z w128 d ≡ pos d
  den-back = back-unsigned d i.denominator

  size-is : k ≡ nat_abs q.num
  size-is = e ∙ ap nat_abs (back-num n d q i v)

  minus-back : back (pos 0 -ℤ to_z w128 d) ≡ pos 0 -ℤ pos d
  minus-back = ap (λ (z : ℤ). back (pos 0 -ℤ z)) den-back ∙ back-is (pos 0 -ℤ pos d) (neg-fraction (pos d) k turned).numerator

  pub reciprocal-fraction : IsFraction wide_limit (to_z w128 d) k
  reciprocal-fraction = subst (λ (z : ℤ). IsFraction wide_limit z k) (sym den-back) turned

  pub reciprocal-is : pos 0 ≤ℤ q.num → ratio (to_z w128 d) k ≡ inverse q
  reciprocal-is h = ap₂ ratio (den-back ∙ ap pos (den-is n d q i v)) size-is ∙ sym (inverse-positive q h)

  pub minus_reciprocal-fraction : IsFraction wide_limit (back (pos 0 -ℤ to_z w128 d)) k
  minus_reciprocal-fraction = subst (λ (z : ℤ). IsFraction wide_limit z k) (sym minus-back) (neg-fraction (pos d) k turned)

  pub minus_reciprocal-is : q.num <ℤ pos 0 → ratio (back (pos 0 -ℤ to_z w128 d)) k ≡ inverse q
  minus_reciprocal-is h = ap₂ ratio (minus-back ∙ minus-is_neg (pos d) ∙ ap (λ (x : ℕ). neg_ℤ (pos x)) (den-is n d q i v)) size-is ∙ sym (inverse-negative q h)

-- ---- a fraction brought to lowest terms
module _ (n x : ℤ) (d s g : ℕ) (w : Within wide_limit n) (h : 0 < d) (l : d ≤ wide_limit) (e : s ≡ nat_abs (back n)) (f : g ≡ gcd s d) (k : x ≡ over (back n) g) where
  factor-is : g ≡ gcd (nat_abs n) d
  factor-is = f ∙ ap (λ (m : ℕ). gcd m d) (e ∙ ap nat_abs (back-is n w))

  numerator-is : x ≡ over n (gcd (nat_abs n) d)
  numerator-is = k ∙ ap₂ over (back-is n w) factor-is

  denominator-is : d / g ≡ d / gcd (nat_abs n) d
  denominator-is = ap (λ (m : ℕ). d / m) factor-is

  pub reduced-made : Made wide x (d / g) (Unit {0}) (ratio n d)
  reduced-made = made wide x _ (d / g) _ _ _ numerator-is denominator-is (divided-fraction n d h w l) (divided-ratio n d h) tt
