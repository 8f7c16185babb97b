-- Believed: the rational numbers, exact and without limit, their sums, products and order.
-- Each is a fraction in lowest terms, so equal numbers are the same value.
use Rattle.std.specs.Ordering.{int_cmp}
use Rattle.std.specs.declared.cmp.Ordering.{Ordering}
use Rattle.std.specs.Prelude.{ℕ, zero, suc, ◌*◌, ◌/◌, T, ℤ, pos, negsuc, ◌+ℤ◌, ◌*ℤ◌, neg_ℤ, ◌≤ℤ◌, ◌<ℤ◌}
use Rattle.std.proofs.Common.{zero-lt-suc}
use lib.IntN.{nat_abs}
use Rattle.rational.specs.Gcd.{gcd}
use Rattle.rational.specs.Lowest.{is_lowest, over, divided-is_lowest}

-- a rational number: a whole number over a number above 0, with no common factor
pub record ℚ : Type 0 where
  pub num : ℤ
  pub den : ℕ
  pub lowest : T (is_lowest num den)

-- n / d in lowest terms; 0 where d is 0
unfoldable pub ratio : ℤ → ℕ → ℚ
unfolding gcd
ratio n zero = record { num = pos 0; den = 1; lowest = tt }
ratio n (suc d) = record { num = over n (gcd (nat_abs n) (suc d)); den = suc d / gcd (nat_abs n) (suc d); lowest = divided-is_lowest n (suc d) (zero-lt-suc d) }

-- a whole number, as a rational one
unfoldable pub whole : ℤ → ℚ
whole z = ratio z 1

abbrev pub zeroℚ : ℚ
zeroℚ = whole (pos 0)

abbrev pub oneℚ : ℚ
oneℚ = whole (pos 1)

-- the sum: a/b + c/d is (a d + c b) / (b d)
infixl 6 ◌+ℚ◌
unfoldable pub ◌+ℚ◌ : ℚ → ℚ → ℚ
q +ℚ r = ratio (q.num *ℤ pos r.den +ℤ r.num *ℤ pos q.den) (q.den * r.den)

-- the product: a/b times c/d is (a c) / (b d)
infixl 7 ◌*ℚ◌
unfoldable pub ◌*ℚ◌ : ℚ → ℚ → ℚ
q *ℚ r = ratio (q.num *ℤ r.num) (q.den * r.den)

-- the negative
unfoldable pub neg_ℚ : ℚ → ℚ
neg_ℚ q = ratio (neg_ℤ q.num) q.den

-- the difference: the sum with the negative
infixl 6 ◌-ℚ◌
abbrev pub ◌-ℚ◌ : ℚ → ℚ → ℚ
q -ℚ r = q +ℚ neg_ℚ r

-- d / n, its sign above the line; 0 where n is 0
unfoldable pub reciprocal : ℤ → ℕ → ℚ
reciprocal (pos n) d = ratio (pos d) n
reciprocal (negsuc n) d = ratio (neg_ℤ (pos d)) (suc n)

-- 1 / q; 0 where q is 0
unfoldable pub inverse : ℚ → ℚ
unfolding reciprocal
inverse q = reciprocal q.num q.den

-- a/b is at most c/d where a d is at most c b
infix 50 ◌≤ℚ◌ ◌<ℚ◌
pub record ◌≤ℚ◌ (q r : ℚ) : Type 0 where
  pub le : (q.num *ℤ pos r.den) ≤ℤ (r.num *ℤ pos q.den)

-- a/b is below c/d where a d is below c b
pub record ◌<ℚ◌ (q r : ℚ) : Type 0 where
  pub lt : (q.num *ℤ pos r.den) <ℤ (r.num *ℤ pos q.den)

-- which of two numbers is the greater
unfoldable pub cmp_ℚ : ℚ → ℚ → Ordering
cmp_ℚ q r = int_cmp (q.num *ℤ pos r.den) (r.num *ℤ pos q.den)
