-- Believed: tests on exact numbers, sums of lists, and tests of each or some number below a bound.
use Rattle.std.specs.Prelude.{ℕ, zero, suc, Bool, true, false, not, ◌&&◌, ◌||◌, List, [], ◌∷◌}
use Rattle.std.specs.declared.cmp.Ordering.{Ordering}
use Rattle.std.specs.declared.cmp.Ordering.TheVariants.{Less, Equal, Greater}
use Rattle.rational.specs.Rational.{ℚ, zeroℚ, ◌+ℚ◌, cmp_ℚ}

abbrev pub is_less : Ordering → Bool
is_less Less = true
is_less Equal = false
is_less Greater = false

abbrev pub is_equal : Ordering → Bool
is_equal Less = false
is_equal Equal = true
is_equal Greater = false

infix 5 ◌<?◌ ◌≤?◌ ◌=?◌
-- q is below r
abbrev pub ◌<?◌ : ℚ → ℚ → Bool
q <? r = is_less (cmp_ℚ q r)

-- q is at most r
abbrev pub ◌≤?◌ : ℚ → ℚ → Bool
q ≤? r = not (is_less (cmp_ℚ r q))

-- q is r
abbrev pub ◌=?◌ : ℚ → ℚ → Bool
q =? r = is_equal (cmp_ℚ q r)

-- the sum of a list
abbrev pub total : List ℚ → ℚ
total [] = zeroℚ
total (x ∷ xs) = x +ℚ total xs

-- the last of a list, or the other number where it is empty
abbrev pub last_or_else : ℚ → List ℚ → ℚ
last_or_else other [] = other
last_or_else other (x ∷ xs) = last_or_else x xs

-- each number below n passes
abbrev pub every : ℕ → (ℕ → Bool) → Bool
every zero p = true
every (suc n) p = every n p && p n

-- some number below n passes
abbrev pub some : ℕ → (ℕ → Bool) → Bool
some zero p = false
some (suc n) p = some n p || p n

infixr 4 ◌⇒◌
-- b holds where a does
abbrev pub ◌⇒◌ : Bool → Bool → Bool
a ⇒ b = not a || b
