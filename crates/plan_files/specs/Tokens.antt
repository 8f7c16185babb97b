-- Believed: the tokens of a line, from left to right.
use Rattle.std.specs.Prelude.{ℕ, Bool, false, not, ◌&&◌, ◌||◌, ◌==◌, List, [], ◌∷◌, length, nat_lt, if◌then◌else◌}
use Rattle.std.specs.List.{list_all}
use Rattle.basics.specs.Texts.{is_blank}

-- a parenthesis, a bracket or a colon
abbrev pub is_mark : ℕ → Bool
is_mark b = (b == 40) || ((b == 41) || ((b == 91) || ((b == 93) || (b == 58))))

-- neither a blank nor a mark
abbrev pub is_run_byte : ℕ → Bool
is_run_byte b = not (is_blank b) && not (is_mark b)

-- some bytes that are neither blanks nor marks
abbrev pub is_run : List ℕ → Bool
is_run bytes = nat_lt 0 (length bytes) && list_all is_run_byte bytes

abbrev pub begins_run : List ℕ → Bool
begins_run [] = false
begins_run (b ∷ bs) = is_run_byte b

-- a byte of a run in front of tokens: where the run goes on, it is put before the first
abbrev pub with_byte : ℕ → Bool → List (List ℕ) → List (List ℕ)
with_byte b goes_on [] = (b ∷ []) ∷ []
with_byte b goes_on (t ∷ ts) = if goes_on then (b ∷ t) ∷ ts else (b ∷ []) ∷ t ∷ ts

-- Each mark is a token, and so is each run of other bytes between blanks and marks, as long as it can be.
unfoldable pub tokens : List ℕ → List (List ℕ)
tokens [] = []
tokens (b ∷ bs) =
    if is_blank b then tokens bs
    else (if is_mark b then (b ∷ []) ∷ tokens bs else with_byte b (begins_run bs) (tokens bs))
