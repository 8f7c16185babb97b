-- Believed: the numbers that decimals stand for.
use Rattle.std.specs.Prelude.{ℕ, ◌^◌, ◌==◌, List, [], ◌∷◌, ◌++◌, length, pos, if◌then◌else◌}
use Rattle.basics.specs.Texts.{number, before_point, behind_point}
use Rattle.rational.specs.Rational.{ℚ, ratio, neg_ℚ}

-- all the digits as one whole number, over a ten for each digit behind the point
abbrev pub decimal_value : List ℕ → ℚ
decimal_value text =
    ratio (pos (number (before_point text ++ behind_point text))) (10 ^ length (behind_point text))

-- the value of a decimal, which may stand behind a minus
abbrev pub number_value : List ℕ → ℚ
number_value [] = decimal_value []
number_value (b ∷ bs) = if b == 45 then neg_ℚ (decimal_value bs) else decimal_value (b ∷ bs)
