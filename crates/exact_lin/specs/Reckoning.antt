-- Believed: where sums and products of fractions whose parts have a limit are defined.
use Rattle.std.specs.Prelude.{◌≡◌, ℕ, ◌*◌, ◌/◌, ◌≤◌, ℤ, pos, ◌+ℤ◌, ◌*ℤ◌, T, Result, Ok, Err}
use Rattle.std.specs.Coded.{Coded, code_by, coded×, coded_ℕ, coded_ℤ}
use lib.IntN.{nat_abs}
use Rattle.rational.specs.Gcd.{gcd}
use Rattle.rational.specs.Lowest.{over, is_lowest}
use Rattle.rational.specs.Rational.{ℚ, ratio}
use Rattle.rational.proofs.Fractions.{ratio-parts}

-- the largest part of a fraction in 128 bits, 2 ^ 127 - 1
abbrev pub wide_limit : ℕ
wide_limit = 170141183460469231731687303715884105727

-- the largest part of a fraction in 64 bits, 2 ^ 63 - 1
abbrev pub narrow_limit : ℕ
narrow_limit = 9223372036854775807

-- the whole number is not past the limit, whatever its sign
abbrev pub Within : ℕ → ℤ → Type 0
Within limit z = nat_abs z ≤ limit

-- n / d is in lowest terms, and neither part is past the limit
pub record IsFraction (limit : ℕ) (n : ℤ) (d : ℕ) : Type 0 where
  pub lowest : T (is_lowest n d)
  pub numerator : Within limit n
  pub denominator : d ≤ limit

-- neither part of the number, in lowest terms, is past the limit
pub record Fits (limit : ℕ) (q : ℚ) : Type 0 where
  pub numerator : Within limit q.num
  pub denominator : q.den ≤ limit

-- the numerator of a / b times c / d, after the common factors of a and d and of c and b are taken out
abbrev pub product_numerator : ℤ → ℕ → ℤ → ℕ → ℤ
product_numerator a b c d = over a (gcd (nat_abs a) d) *ℤ over c (gcd (nat_abs c) b)

-- the denominator of a / b times c / d, after the same factors are taken out
abbrev pub product_denominator : ℤ → ℕ → ℤ → ℕ → ℕ
product_denominator a b c d = (b / gcd (nat_abs c) b) * (d / gcd (nat_abs a) d)

-- no part of a / b times c / d is past the limit
pub record ProductFits (limit : ℕ) (a : ℤ) (b : ℕ) (c : ℤ) (d : ℕ) : Type 0 where
  pub numerator : Within limit (product_numerator a b c d)
  pub denominator : product_denominator a b c d ≤ limit

-- the numerator of a / b over the common denominator of a / b and c / d
abbrev pub left_term : ℤ → ℕ → ℤ → ℕ → ℤ
left_term a b c d = a *ℤ pos (d / gcd b d)

-- the numerator of c / d over the common denominator of a / b and c / d
abbrev pub right_term : ℤ → ℕ → ℤ → ℕ → ℤ
right_term a b c d = c *ℤ pos (b / gcd b d)

-- the numerator of a / b + c / d over their common denominator
abbrev pub both_terms : ℤ → ℕ → ℤ → ℕ → ℤ
both_terms a b c d = left_term a b c d +ℤ right_term a b c d

-- what that numerator still has in common with the denominator
abbrev pub shared_factor : ℤ → ℕ → ℤ → ℕ → ℕ
shared_factor a b c d = gcd (nat_abs (both_terms a b c d)) (gcd b d)

-- the numerator of a / b + c / d in lowest terms
abbrev pub sum_numerator : ℤ → ℕ → ℤ → ℕ → ℤ
sum_numerator a b c d = over (both_terms a b c d) (shared_factor a b c d)

-- the denominator of a / b + c / d in lowest terms
abbrev pub sum_denominator : ℤ → ℕ → ℤ → ℕ → ℕ
sum_denominator a b c d = (b / gcd b d) * (d / shared_factor a b c d)

-- no part of a / b + c / d, the two numerators and their sum included, is past the limit
pub record SumFits (limit : ℕ) (a : ℤ) (b : ℕ) (c : ℤ) (d : ℕ) : Type 0 where
  pub left : Within limit (left_term a b c d)
  pub right : Within limit (right_term a b c d)
  pub both : Within limit (both_terms a b c d)
  pub denominator : sum_denominator a b c d ≤ limit

-- the product of two numbers is defined under the limit
abbrev pub CanMultiply : ℕ → ℚ → ℚ → Type 0
CanMultiply limit q r = ProductFits limit q.num q.den r.num r.den

-- the sum of two numbers is defined under the limit
abbrev pub CanAdd : ℕ → ℚ → ℚ → Type 0
CanAdd limit q r = SumFits limit q.num q.den r.num r.den

-- the answer is Ok exactly where P holds, and then its value is q
abbrev pub Reckons : {S E : Type 0} → (S → ℚ) → Result S E → Type 0 → ℚ → Type 0
Reckons value (Ok x) P q = P × (value x ≡ q)
Reckons value (Err e) P q = ¬ P

-- a rational number is stored as its numerator and its denominator
abbrev pub ℚ_code : Coded ℚ
ℚ_code = code_by (ℤ × ℕ) (coded× coded_ℤ coded_ℕ) (λ q. (q.num, q.den)) (λ p. ratio p.0 p.1) ratio-parts
