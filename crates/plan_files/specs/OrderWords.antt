-- Believed: the words of a line of an ordering file.
use Rattle.std.specs.Prelude.{ℕ, ◌≡◌, IsTrue, List, [], ◌∷◌, ◌++◌, codes}
use Rattle.std.specs.List.{list_all}
use Rattle.plan_files.specs.declared.order_words.Doing.{Doing}
use Rattle.plan_files.specs.declared.order_words.Doing.TheVariants as doing
use Rattle.plan_files.specs.Tokens.{is_run, tokens}

-- A line starts, ends or does an action, names a timed step by its moment, or sets two steps apart, which it names by
-- their numbers.
pub data OrderWords : Type 0 where
  Acts : (what : Doing) (name : List ℕ) (args : List (List ℕ)) → OrderWords
  Timed : (moment : List ℕ) → OrderWords
  Pair : (first second : List ℕ) → OrderWords

-- what is done with an action, in a word
abbrev pub doing_word : Doing → List ℕ
doing_word doing.Start = codes "start"
doing_word doing.End = codes "end"
doing_word doing.Do = codes "do"

-- the tokens of `start (name args)`, `timed t` and `pair i j`
abbrev pub order_tokens : OrderWords → List (List ℕ)
order_tokens (Acts what name args) = doing_word what ∷ (40 ∷ []) ∷ name ∷ args ++ (41 ∷ []) ∷ []
order_tokens (Timed moment) = codes "timed" ∷ moment ∷ []
order_tokens (Pair first second) = codes "pair" ∷ first ∷ second ∷ []

-- the words that may be any
abbrev pub free_words : OrderWords → List (List ℕ)
free_words (Acts what name args) = name ∷ args
free_words (Timed moment) = moment ∷ []
free_words (Pair first second) = first ∷ second ∷ []

-- The line is made of these words; blanks may stand anywhere between its tokens.
pub record Orders (line : List ℕ) (w : OrderWords) : Type 0 where
  pub runs : IsTrue (list_all is_run (free_words w))
  pub spelled : tokens line ≡ order_tokens w
