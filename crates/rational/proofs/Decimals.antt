-- The values of decimals whose parts are known.
use Rattle.std.proofs.Common.{◌≡◌, ℕ, ◌^◌, true, List, [], ◌∷◌, ◌++◌, length, append-nil, pos, refl}
use Rattle.std.specs.List.{list_all}
use Rattle.std.specs.Char.{is_ascii_digit}
use Rattle.basics.specs.Texts.{number}
use Rattle.basics.proofs.Texts.{before_point-digits, behind_point-digits, before_point-parts, behind_point-parts}
use Rattle.rational.specs.Rational.{ℚ, ratio}
use Rattle.rational.specs.Decimals.{decimal_value}

-- digits alone stand for a whole number
pub decimal_value-digits : (ds : List ℕ) → list_all is_ascii_digit ds ≡ true → decimal_value ds ≡ ratio (pos (number ds)) 1
decimal_value-digits ds all = rw (before_point-digits ds all, behind_point-digits ds all, append-nil ds) refl

-- digits, a point and what follows it stand for a fraction of tens
pub decimal_value-parts : (front places : List ℕ) → list_all is_ascii_digit front ≡ true
    → decimal_value (front ++ 46 ∷ places) ≡ ratio (pos (number (front ++ places))) (10 ^ length places)
decimal_value-parts front places all = rw (before_point-parts front places all, behind_point-parts front places all) refl
