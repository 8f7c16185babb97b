-- Believed: the words of a plan line.
use Rattle.std.specs.Prelude.{ℕ, ◌≡◌, IsTrue, List, [], ◌∷◌, ◌++◌, Option, Some, None, option_to_list}
use Rattle.std.specs.List.{list_all}
use Rattle.plan_files.specs.Tokens.{is_run, tokens}

-- when an action starts, its name and arguments, and in a bracket how long it takes
pub record PlanWords : Type 0 where
  pub start : List ℕ
  pub name : List ℕ
  pub args : List (List ℕ)
  pub duration : Option (List ℕ)

abbrev pub bracket_of : Option (List ℕ) → List (List ℕ)
bracket_of None = []
bracket_of (Some d) = (91 ∷ []) ∷ d ∷ (93 ∷ []) ∷ []

-- the tokens of `start: (name args) [duration]`, or of the same without the bracket
abbrev pub tokens_of : PlanWords → List (List ℕ)
tokens_of w = w.start ∷ (58 ∷ []) ∷ (40 ∷ []) ∷ w.name ∷ w.args ++ (41 ∷ []) ∷ bracket_of w.duration

-- all of its words
abbrev pub words : PlanWords → List (List ℕ)
words w = w.start ∷ w.name ∷ w.args ++ option_to_list w.duration

-- The line is made of these words; blanks may stand anywhere between its tokens.
pub record Says (line : List ℕ) (w : PlanWords) : Type 0 where
  pub runs : IsTrue (list_all is_run (words w))
  pub spelled : tokens line ≡ tokens_of w
