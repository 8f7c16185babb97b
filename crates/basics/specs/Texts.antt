-- Believed: the small words of texts: blanks, names, digits and decimals, and the number that digits stand for.
use Rattle.std.specs.Prelude.{ℕ, Option, MatchOption, ◌+◌, ◌-◌, ◌*◌, Bool, false, ◌&&◌, ◌||◌, ◌==◌, List, [], ◌∷◌, length, nat_lt, nat_le, count_by, if◌then◌else◌}
use Rattle.std.specs.List.{list_all}
use Rattle.std.specs.Char.{is_ascii_digit, is_ascii_alphabetic}

-- the blanks: space, tab, line feed and carriage return
abbrev pub is_blank : ℕ → Bool
is_blank b = (b == 32) || ((b == 9) || ((b == 10) || (b == 13)))

-- ---- names

-- the most bytes of a name
abbrev pub name_limit : ℕ
name_limit = 64

-- a letter, a digit, a dash or an underscore
abbrev pub is_name_byte : ℕ → Bool
is_name_byte b = is_ascii_alphabetic b || (is_ascii_digit b || ((b == 45) || (b == 95)))

-- a letter, and then letters, digits, dashes and underscores
abbrev pub is_name : List ℕ → Bool
is_name [] = false
is_name (b ∷ bs) = is_ascii_alphabetic b && list_all is_name_byte bs

-- ---- digits

-- at least one byte, and each a digit
abbrev pub is_digits : List ℕ → Bool
is_digits text = nat_lt 0 (length text) && list_all is_ascii_digit text

-- the number that digits stand for behind a number that was read before
abbrev pub number_after : ℕ → List ℕ → ℕ
number_after n [] = n
number_after n (c ∷ cs) = number_after (10 * n + (c - 48)) cs

-- the number that digits stand for, leading zeros and all
abbrev pub number : List ℕ → ℕ
number text = number_after 0 text

-- ---- decimals

-- the most digits of a decimal
abbrev pub digit_limit : ℕ
digit_limit = 18

abbrev pub is_point : ℕ → Bool
is_point b = b == 46

abbrev pub is_digit_or_point : ℕ → Bool
is_digit_or_point b = is_ascii_digit b || is_point b

-- how many digits there are
abbrev pub digit_count : List ℕ → ℕ
digit_count text = count_by is_ascii_digit text

-- how many points there are
abbrev pub point_count : List ℕ → ℕ
point_count text = count_by is_point text

-- digits and at most one point, which may come first or last, with at least one digit
abbrev pub is_decimal : List ℕ → Bool
is_decimal text = list_all is_digit_or_point text && (nat_le (point_count text) 1 && nat_lt 0 (digit_count text))

-- what stands before the first point, or all
abbrev pub before_point : List ℕ → List ℕ
before_point [] = []
before_point (b ∷ bs) = if is_point b then [] else b ∷ before_point bs

-- what stands behind the first point, or nothing
abbrev pub behind_point : List ℕ → List ℕ
behind_point [] = []
behind_point (b ∷ bs) = if is_point b then bs else behind_point bs

-- what stands behind the minus, if there is one
abbrev pub unsigned : List ℕ → List ℕ
unsigned [] = []
unsigned (b ∷ bs) = if b == 45 then bs else b ∷ bs

-- a minus or none, and then a decimal
abbrev pub is_number : List ℕ → Bool
is_number text = is_decimal (unsigned text)

-- ---- answers

-- what was read has the property; where nothing was read, nothing has it
abbrev pub ReadsExactly : {A : Type 0} → Option A → (A → Type 0) → Type 0
ReadsExactly {A} result P = MatchOption result ((x : A) → ¬ (P x)) P
