-- Believed: the value of a number.
use Rattle.std.specs.Prelude.{ℕ, ◌^◌, ◌==◌, Bool, false, List, [], ◌∷◌, filter, pos, if◌then◌else◌}
use Rattle.std.specs.Char.{is_ascii_digit}
use Rattle.basics.specs.Texts.{number, digit_count, behind_point}
use Rattle.rational.specs.Rational.{ℚ, ratio, whole, neg_ℚ}
use Rattle.pddl_terms.specs.Words.{is_number}
use Rattle.pddl_terms.specs.Content.{Content, End, Word, Inner}

-- its digits alone
abbrev pub digits_of : List ℕ → List ℕ
digits_of bytes = filter is_ascii_digit bytes

-- whether a minus comes first
abbrev pub is_negative : List ℕ → Bool
is_negative [] = false
is_negative (b ∷ bs) = b == 45

-- the digits as one whole number, over a ten for each digit behind the point
abbrev pub size : List ℕ → ℚ
size bytes = ratio (pos (number (digits_of bytes))) (10 ^ digit_count (behind_point bytes))

-- the value of a number's bytes
unfoldable pub number_value : List ℕ → ℚ
number_value bytes = if is_negative bytes then neg_ℚ (size bytes) else size bytes

-- the value of the number that stands next, or 0 where none does
unfoldable pub number_at : Content → ℚ
number_at (Word w more) = if is_number w.kind then number_value w.bytes else whole (pos 0)
number_at (End close) = whole (pos 0)
number_at (Inner at inner more) = whole (pos 0)
