-- Believed: the first of some places in an order, and the variable at a place.
use Rattle.std.specs.Prelude.{ℕ, ◌<◌, ◌≤◌, List, slice_index_or, Option, MatchOption}

-- the variable at a place; 0 past the end
abbrev pub variable_at : List ℕ → ℕ → ℕ
variable_at xs k = slice_index_or xs k 0

-- of the places below n that pass, i comes before or beside each
pub record IsFirst (Passes : ℕ → Type 0) (Before : ℕ → ℕ → Type 0) (n i : ℕ) : Type 0 where
  pub below : i < n
  pub passes : Passes i
  pub first : (k : ℕ) → k < n → Passes k → Before i k

-- no place below n passes
abbrev pub NonePasses : (ℕ → Type 0) → ℕ → Type 0
NonePasses Passes n = (k : ℕ) → k < n → ¬ Passes k

-- the first of the places below n that pass, or none where none passes
abbrev pub FindsFirst : (ℕ → Type 0) → (ℕ → ℕ → Type 0) → ℕ → Option ℕ → Type 0
FindsFirst Passes Before n found = MatchOption found (NonePasses Passes n) (IsFirst Passes Before n)

-- the variable at i has the lesser number
abbrev pub IsLesser : List ℕ → ℕ → ℕ → Type 0
IsLesser variables i k = variable_at variables i ≤ variable_at variables k
