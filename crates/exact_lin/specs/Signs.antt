-- Believed: what the sign of a number says.
use Rattle.std.specs.Prelude.{◌≡◌}
use Rattle.rational.specs.Rational.{ℚ, zeroℚ, ◌<ℚ◌}
use Rattle.exact_lin.specs.declared.scalars.Sign.{Sign}
use Rattle.exact_lin.specs.declared.scalars.Sign.TheVariants.{Minus, Zero, Plus}

-- the sign is that of the number
abbrev pub MatchSign : Sign → ℚ → Type 0
MatchSign Minus q = q <ℚ zeroℚ
MatchSign Zero q = q ≡ zeroℚ
MatchSign Plus q = zeroℚ <ℚ q
