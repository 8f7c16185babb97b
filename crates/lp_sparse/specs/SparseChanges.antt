-- Private: the rows that a pivot changes, with their places.
use Rattle.std.specs.Prelude.{◌≡◌, ℕ, ◌+◌, ◌<◌, ◌⊎◌, List, [], ◌∷◌, ◌++◌, Vec, Option, None, Some, map, slice_set, slice_index_or}
use Rattle.std.specs.List.{AllByRecursion}
use Rattle.rational.specs.Rational.{ℚ}
use Rattle.exact_lin.specs.Forms.{Terms}
use Rattle.lp_sparse.specs.SparseRows.{terms_of, IsReplaced}

-- changed rows by their places, as terms
abbrev pub changes_of : {S Z : Type 0} → (S → ℚ) → List (ℕ × Vec (ℕ × S) Z) → List (ℕ × Terms)
changes_of value changes = map (λ c. (c.0, terms_of value c.1.items)) changes

-- one more changed row, if it is one
abbrev pub noted : {S Z : Type 0} → (S → ℚ) → List (ℕ × Terms) → ℕ → Option (Vec (ℕ × S) Z) → List (ℕ × Terms)
noted value changes k None = changes
noted value changes k (Some row) = changes ++ (k, terms_of value row.items) ∷ []

-- the changed row, or the row as it was
abbrev pub row_or : {S Z : Type 0} → (S → ℚ) → Terms → Option (Vec (ℕ × S) Z) → Terms
row_or value row None = row
row_or value row (Some out) = terms_of value out.items

-- the rows with the changed ones at their places
abbrev pub with_changes : List (ℕ × Terms) → List Terms → List Terms
with_changes [] rows = rows
with_changes (c ∷ cs) rows = slice_set (with_changes cs rows) c.0 c.1

-- each change has a place below n
abbrev pub AreWithin : ℕ → List (ℕ × Terms) → Type 0
AreWithin n changes = AllByRecursion (λ (c : ℕ × Terms). c.0 < n) changes

-- what becomes of the row at k in a pivot in which the row at i leaves: for now that one stays as it is
abbrev pub Becomes : ℕ → ℕ → Terms → ℕ → ℕ → ℕ → Terms → Terms → Type 0
Becomes limit n solution i j k row out = ((k ≡ i) × (out ≡ row)) ⊎ ((¬ (k ≡ i)) × IsReplaced limit n solution j row out)

-- of the rows, which stand from the place `start` on, those that change are among the changes, in their order
abbrev pub AreChanges : (ℕ → Terms → Terms → Type 0) → ℕ → List Terms → List (ℕ × Terms) → Type 0
AreChanges Changes start [] cs = cs ≡ []
AreChanges Changes start (r ∷ rs) cs = (Changes start r r × AreChanges Changes (start + 1) rs cs)
    ⊎ ((out : Terms) × (later : List (ℕ × Terms)) × (cs ≡ (start, out) ∷ later) × Changes start r out × AreChanges Changes (start + 1) rs later)

-- the row at a place; without terms past the end
abbrev pub terms_in : List Terms → ℕ → Terms
terms_in rows k = slice_index_or rows k []
