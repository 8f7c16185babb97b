-- Believed: the values of options.
use Rattle.std.specs.Prelude.{◌≡◌, ◌≤◌, ℕ, Bool, ◌&&◌, true, List, length, nat_le, Option, Some, None}
use Rattle.rational.specs.Rational.{ℚ, zeroℚ, ◌<ℚ◌, ◌≤ℚ◌}
use Rattle.exact_lin.specs.Reckoning.{Fits, wide_limit}
use Rattle.basics.specs.Texts.{is_digits, number}
use Rattle.plan_text.specs.Numbers.{Spells}

-- the text stands for the number, which is above 0 and at most the top
pub record IsNumberWithin (top : ℚ) (text : List ℕ) (q : ℚ) : Type 0 where
  pub spelled : Spells text q
  pub fits : Fits wide_limit q
  pub above_zero : zeroℚ <ℚ q
  pub at_most : q ≤ℚ top

-- with no text, the usual number
abbrev pub IsNumberGiven : (usual top : ℚ) → Option (List ℕ) → ℚ → Type 0
IsNumberGiven usual top None q = q ≡ usual
IsNumberGiven usual top (Some text) q = IsNumberWithin top text q

-- 1 to 10 digits
abbrev pub is_count : List ℕ → Bool
is_count text = is_digits text && nat_le (length text) 10

-- the text is a count in this range
pub record IsCountWithin (least most : ℕ) (text : List ℕ) (n : ℕ) : Type 0 where
  pub counts : is_count text ≡ true
  pub value : n ≡ number text
  pub at_least : least ≤ n
  pub at_most : n ≤ most

-- with no text, the usual count
abbrev pub IsCountGiven : (usual least most : ℕ) → Option (List ℕ) → ℕ → Type 0
IsCountGiven usual least most None n = n ≡ usual
IsCountGiven usual least most (Some text) n = IsCountWithin least most text n
