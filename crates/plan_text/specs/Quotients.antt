-- Private: the comparison of a quotient of digits with a fraction, and the search of its parts in lowest terms.
use Rattle.std.specs.Prelude.{◌≡◌, ℕ, ◌+◌, ◌-◌, ◌*◌, ◌^◌, ◌≤◌, ◌<◌, true, List, ◌++◌, length, take}
use Rattle.std.specs.List.{list_all}
use Rattle.std.specs.Char.{is_ascii_digit}
use Rattle.std.specs.Ordering.{MatchOrdering}
use Rattle.std.specs.declared.cmp.Ordering.{Ordering}
use Rattle.plan_text.specs.declared.digits.Digits.{Digits}
use Rattle.basics.specs.Texts.{number}

-- the digits of both texts, one behind the other
abbrev pub bytes_of : Digits → List ℕ
bytes_of digits = digits.front.now ++ digits.back.now

-- each byte is a digit
abbrev pub AreDigits : List ℕ → Type 0
AreDigits ds = list_all is_ascii_digit ds ≡ true

-- the number of the first digits, where digits are led by as many zeros as make them so many
abbrev pub leading : List ℕ → ℕ → ℕ → ℕ
leading ds total i = number (take (i + length ds - total) ds)

-- how p / q stands to n / d: below it, at it or above it
abbrev pub Compares : Ordering → ℕ → ℕ → ℕ → ℕ → Type 0
Compares order p q n d = MatchOrdering order (p * d < q * n) (p * d ≡ q * n) (q * n < p * d)

-- n / d lies strictly between c / e and a / b, and these are neighbours
pub record LiesBetween (n d a b c e : ℕ) : Type 0 where
  pub above : b * n < a * d
  pub below : c * d < e * n
  pub neighbours : a * e ≡ b * c + 1

-- from one pair on by so many times another, or none
pub record AreSteps (x y s t p q : ℕ) : Type 0 where
  pub times : ℕ
  pub first : p ≡ x + times * s
  pub second : q ≡ y + times * t

-- from one pair on by so many times another, at least once
pub record IsStep (x y s t p q : ℕ) : Type 0 where
  pub times : ℕ
  pub some : 0 < times
  pub first : p ≡ x + times * s
  pub second : q ≡ y + times * t

-- a difference, kept as words above 2 ^ 68 - 2 ^ 63 and a rest, that isn't far from 0
pub record IsNear (high low : ℕ) : Type 0 where
  pub rest : low < 2 ^ 64
  pub above : 2 ^ 68 ≤ high + 2 ^ 63
  pub below : high < 2 ^ 68 + 2 ^ 63
