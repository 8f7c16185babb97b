-- Believed: what a scan of a line finds next.
use Rattle.std.specs.Prelude.{ℕ, ◌==◌, List, [], ◌∷◌, if◌then◌else◌, Option, Some, None}
use Rattle.basics.specs.Texts.{is_blank}
use Rattle.plan_files.specs.Tokens.{is_run_byte}

-- what is left behind the blanks in front
abbrev pub skip_blanks : List ℕ → List ℕ
skip_blanks [] = []
skip_blanks (b ∷ bs) = if is_blank b then skip_blanks bs else b ∷ bs

-- the run in front, which may be empty
abbrev pub run_in_front : List ℕ → List ℕ
run_in_front [] = []
run_in_front (b ∷ bs) = if is_run_byte b then b ∷ run_in_front bs else []

-- what is left behind the run in front
abbrev pub skip_run : List ℕ → List ℕ
skip_run [] = []
skip_run (b ∷ bs) = if is_run_byte b then skip_run bs else b ∷ bs

-- what is left from the first such byte on
abbrev pub skip_to : ℕ → List ℕ → List ℕ
skip_to byte [] = []
skip_to byte (b ∷ bs) = if b == byte then b ∷ bs else skip_to byte bs

-- what is left behind the blanks in front and this mark, where it comes next
abbrev pub behind : ℕ → List ℕ → Option (List ℕ)
behind mark [] = None
behind mark (b ∷ bs) = if b == mark then Some bs else None

abbrev pub behind_mark : ℕ → List ℕ → Option (List ℕ)
behind_mark mark line = behind mark (skip_blanks line)

-- a run that isn't empty, with what is left
abbrev pub some_run : List ℕ → List ℕ → Option (List ℕ × List ℕ)
some_run [] rest = None
some_run (b ∷ bs) rest = Some (b ∷ bs, rest)

-- the run that comes next behind blanks, and what is left behind it
abbrev pub next_run : List ℕ → Option (List ℕ × List ℕ)
next_run line = some_run (run_in_front (skip_blanks line)) (skip_run (skip_blanks line))

-- what is left behind the first line and its line feed
abbrev pub tail_of : List ℕ → List ℕ
tail_of [] = []
tail_of (b ∷ bs) = bs

abbrev pub behind_line : List ℕ → List ℕ
behind_line text = tail_of (skip_to 10 text)
