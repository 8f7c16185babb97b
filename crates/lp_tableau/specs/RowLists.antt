-- Private: rows of scalars as rows of numbers, and spare rows beside them.
use Rattle.std.specs.Prelude.{◌≡◌, ℕ, ◌+◌, ◌<◌, List, length, map, Vec}
use Rattle.std.specs.List.{All}
use Rattle.rational.specs.Rational.{ℚ, zeroℚ}
use Rattle.rational.specs.Lists.{at}
use Rattle.exact_lin.specs.Reckoning.{Fits}
use Rattle.lp_tableau.specs.Dictionaries.{row_in}
use Rattle.lp_tableau.specs.Pivots.{replaced}

-- rows of scalars as rows of numbers
abbrev pub shown_rows : {S Z : Type 0} → (S → ℚ) → List (Vec S Z) → List (List ℚ)
shown_rows value rows = map (λ row. map value row.items) rows

-- each row has n numbers
abbrev pub HaveWidth : {S Z : Type 0} → ℕ → List (Vec S Z) → Type 0
HaveWidth n rows = All (λ row. length row.items ≡ n) rows

-- each number of a row keeps to the limit
abbrev pub RowFits : ℕ → List ℚ → Type 0
RowFits limit row = (k : ℕ) → k < length row → Fits limit (at row k)

-- each number of the rows does
abbrev pub RowsFit : ℕ → List (List ℚ) → Type 0
RowsFit limit rows = (i : ℕ) → i < length rows → RowFits limit (row_in rows i)

-- every spare row but the last holds what the row at its place is after the pivot, where that row changes
abbrev pub AreReady : List ℚ → ℕ → ℕ → List (List ℚ) → List (List ℚ) → Type 0
AreReady solution i j rows spare = (m : ℕ) → m < length rows → m + 1 < length spare → ¬ (m ≡ i) → ¬ (at (row_in rows m) j ≡ zeroℚ)
    → row_in spare m ≡ replaced solution j (row_in rows m)
