-- Private: the programs of the tests, over two variables, read off a list of rows or off one bound.
use Rattle.std.specs.Prelude.{◌≡◌, List, [], ◌∷◌, map, length, ℤ, pos, negsuc, refl}
use Rattle.std.specs.List.{AllByRecursion}
use Rattle.rational.specs.Rational.{ℚ, whole, zeroℚ}
use Rattle.rational.specs.Rows.{Row}
use Rattle.cert_core.specs.Programs.{Program, IsEven}

module _ {X : Type 0} (a b bound : X → ℤ) where
  -- the row a x + b y ≤ bound
  abbrev pub two_factors : X → Row
  two_factors l = record { factors = whole (a l) ∷ whole (b l) ∷ []; bound = whole (bound l) }

  -- these rows, and the cost c x + d y
  abbrev pub two_variables : List X → ℤ → ℤ → Program
  two_variables lines c d = record { rows = map two_factors lines; costs = whole c ∷ whole d ∷ []; base = zeroℚ }

  pub two_variables-even : (lines : List X) (c d : ℤ) → IsEven (two_variables lines c d)
  two_variables-even lines c d = record { even = each lines }
    where
      each : (lines : List X) → AllByRecursion (λ (r : Row). length r.factors ≡ 2) (map two_factors lines)
      each [] = tt
      each (l ∷ lines) = (refl, each lines)

-- the rows -x ≤ bound and 100 x - y ≤ 0, without a cost
abbrev pub far_away : ℚ → Program
far_away bound = record {
  rows = record { factors = whole (negsuc 0) ∷ zeroℚ ∷ []; bound = bound } ∷ record { factors = whole (pos 100) ∷ whole (negsuc 0) ∷ []; bound = zeroℚ } ∷ [];
  costs = zeroℚ ∷ zeroℚ ∷ [];
  base = zeroℚ;
}

pub far_away-even : (bound : ℚ) → IsEven (far_away bound)
far_away-even bound = record { even = (refl, (refl, tt)) }
