-- Believed: the lesser and the greater of two numbers.
use Rattle.std.specs.Ordering.{match_ordering}
use Rattle.rational.specs.Rational.{ℚ, cmp_ℚ}

-- the lesser of two numbers
unfoldable pub min_ℚ : ℚ → ℚ → ℚ
min_ℚ q r = match_ordering (cmp_ℚ q r) q q r

-- the greater of two numbers
unfoldable pub max_ℚ : ℚ → ℚ → ℚ
max_ℚ q r = match_ordering (cmp_ℚ q r) r q q
