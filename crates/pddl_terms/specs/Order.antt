-- Believed: the order of places.
use Rattle.std.specs.Prelude.{ℕ, suc, ◌≤◌, List}
use Rattle.std.specs.List.{AllByRecursion}
use Rattle.pddl_terms.specs.Content.{Content, End, Word, Inner}

-- where the list ends
abbrev pub close_of : Content → ℕ
close_of (End close) = close
close_of (Word w more) = close_of more
close_of (Inner at inner more) = close_of more

-- from a place on, each token stands behind those before it
abbrev pub Ascends : ℕ → Content → Type 0
Ascends low (End close) = low ≤ close
Ascends low (Word w more) = (low ≤ w.at) × Ascends (suc w.at) more
Ascends low (Inner at inner more) = (low ≤ at) × Ascends (suc at) inner × Ascends (suc (close_of inner)) more

-- none of the places comes before this one
abbrev pub IsLeast : ℕ → List ℕ → Type 0
IsLeast place places = AllByRecursion (λ p. place ≤ p) places
