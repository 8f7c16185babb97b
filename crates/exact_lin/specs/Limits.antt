-- Private: proofs that what is defined under a limit is defined under a larger one, for the impls of `Scalar`.
use Rattle.std.proofs.Common.{ℕ, ◌≤◌, arith}
use Rattle.rational.specs.Rational.{ℚ}
use Rattle.exact_lin.specs.Reckoning.{CanAdd, CanMultiply, narrow_limit, wide_limit}

-- a sum that is defined under a limit is defined under a larger one
pub CanAdd-larger : (limit larger : ℕ) → limit ≤ larger → (q r : ℚ) → CanAdd limit q r → CanAdd larger q r
CanAdd-larger limit larger h q r f = record { left = omega (arith, f.left); right = omega (arith, f.right); both = omega (arith, f.both); denominator = omega (arith, f.denominator) }

-- a product that is defined under a limit is defined under a larger one
pub CanMultiply-larger : (limit larger : ℕ) → limit ≤ larger → (q r : ℚ) → CanMultiply limit q r → CanMultiply larger q r
CanMultiply-larger limit larger h q r f = record { numerator = omega (arith, f.numerator); denominator = omega (arith, f.denominator) }

-- narrow parts are wide parts
pub narrow-below_wide : narrow_limit ≤ wide_limit
narrow-below_wide = omega arith
