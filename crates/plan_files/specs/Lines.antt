-- Believed: the lines of a text, and those that aren't blank.
use Rattle.std.specs.Prelude.{ℕ, ◌+◌, ◌==◌, List, [], ◌∷◌, if◌then◌else◌}
use Rattle.std.specs.List.{list_all}
use Rattle.basics.specs.Texts.{is_blank}

-- the bytes before the first such byte, or all where there is none
abbrev pub before : ℕ → List ℕ → List ℕ
before byte [] = []
before byte (b ∷ bs) = if b == byte then [] else b ∷ before byte bs

-- the line without its comment, which a semicolon begins
abbrev pub before_comment : List ℕ → List ℕ
before_comment line = before 59 line

-- the lines of a text, between its line feeds
abbrev pub with_front : ℕ → List (List ℕ) → List (List ℕ)
with_front b [] = (b ∷ []) ∷ []
with_front b (line ∷ lines) = (b ∷ line) ∷ lines

abbrev pub lines_of : List ℕ → List (List ℕ)
lines_of [] = [] ∷ []
lines_of (b ∷ bs) = if b == 10 then [] ∷ lines_of bs else with_front b (lines_of bs)

-- the lines that are not blank once comments are cut, each with its number, where the first has this one
abbrev pub written_from : ℕ → List (List ℕ) → List (ℕ × List ℕ)
written_from number [] = []
written_from number (line ∷ lines) =
    if list_all is_blank (before_comment line) then written_from (number + 1) lines
    else (number, before_comment line) ∷ written_from (number + 1) lines

-- the same for a text, whose lines count from 1
abbrev pub written_lines : List ℕ → List (ℕ × List ℕ)
written_lines text = written_from 1 (lines_of text)
