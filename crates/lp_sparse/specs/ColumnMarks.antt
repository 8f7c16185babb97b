-- Private: which rows may hold which column, so that a pivot passes the others over.
use Rattle.std.specs.Prelude.{◌≡◌, ℕ, Bool, true, false, List, [], map, Vec, slice_index_or}
use Rattle.rational.specs.Rational.{zeroℚ}
use Rattle.exact_lin.specs.Forms.{Terms, coefficient}
use Rattle.lp_sparse.specs.SparseChanges.{terms_in}

-- the marks of each column, row by row
abbrev pub marks_of : {Z : Type 0} → List (Vec Bool Z) → List (List Bool)
marks_of marks = map (λ column. column.items) marks

-- whether the row at k may hold the column c; where there is no mark, it may
abbrev pub may_hold : List (List Bool) → ℕ → ℕ → Bool
may_hold marks c k = slice_index_or (slice_index_or marks c []) k true

-- the row at k may hold the column of each of the terms
abbrev pub IsMarked : List (List Bool) → ℕ → Terms → Type 0
IsMarked marks k terms = (c : ℕ) → may_hold marks c k ≡ false → coefficient terms c ≡ zeroℚ

-- each row may hold the columns that it holds
abbrev pub AreMarked : List (List Bool) → List Terms → Type 0
AreMarked marks rows = (k : ℕ) → IsMarked marks k (terms_in rows k)

-- each mark stays
abbrev pub Keeps : List (List Bool) → List (List Bool) → Type 0
Keeps marks more = (c k : ℕ) → may_hold more c k ≡ false → may_hold marks c k ≡ false
