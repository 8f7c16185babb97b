-- Private: rows without their zeros, as terms of columns and numbers.
use Rattle.std.specs.Prelude.{◌≡◌, ℕ, ◌<◌, List, [], ◌++◌, length, map, Vec, nat_eq, slice_index_or, if◌then◌else◌}
use Rattle.std.specs.List.{range_with_len, All}
use Rattle.rational.specs.Rational.{ℚ, ◌*ℚ◌}
use Rattle.exact_lin.specs.Forms.{Terms, shown, AscendFrom, Covers, coefficient, with_term, increased_by, CanAddTerms}
use Rattle.exact_lin.specs.Reckoning.{CanMultiply}
use Rattle.lp_tableau.specs.Pivots.{solved, replaced, CanSolve, CanReplace}
use Rattle.lp_tableau.specs.RowLists.{RowFits}

-- the n numbers of the row that the terms are what is left of
abbrev pub filled : ℕ → Terms → List ℚ
filled n terms = map (coefficient terms) (range_with_len 0 n)

-- the columns ascend, each below n, and no number is 0
pub record IsSparse (n : ℕ) (terms : Terms) : Type 0 where
  pub ascends : AscendFrom 0 terms
  pub covered : Covers n terms

-- terms of columns and scalars as terms of columns and numbers
abbrev pub terms_of : {S : Type 0} → (S → ℚ) → List (ℕ × S) → Terms
terms_of value row = shown (λ (column : ℕ). column) value row

-- the terms of each row
abbrev pub terms_of_rows : {S Z : Type 0} → (S → ℚ) → List (Vec (ℕ × S) Z) → List Terms
terms_of_rows value rows = map (λ row. terms_of value row.items) rows

-- each row has n numbers
abbrev pub AreSparse : ℕ → List Terms → Type 0
AreSparse n rows = All (IsSparse n) rows

-- a row of n numbers, each of them within the limit
pub record IsRow (limit n : ℕ) (terms : Terms) : Type 0 where
  pub sparse : IsSparse n terms
  pub fits : RowFits limit (filled n terms)

-- a term times y, or r in column j
abbrev pub scaled_term : ℚ → ℚ → ℕ → ℕ × ℚ → ℕ × ℚ
scaled_term y r j t = (t.0, if nat_eq t.0 j then r else y *ℚ t.1)

abbrev pub scaled_terms : ℚ → ℚ → ℕ → Terms → Terms
scaled_terms y r j terms = map (scaled_term y r j) terms

-- the terms `out` are those of the row solved for the variable of column j
pub record IsSolved (limit n : ℕ) (row : Terms) (j : ℕ) (out : Terms) : Type 0 where
  pub defined : CanSolve limit (filled n row) j
  pub is : IsRow limit n out
  pub gives : filled n out ≡ solved (filled n row) j

-- each product and each sum is defined by which f times the terms c, g, d around a column are added to a and b around it
pub record CanJoinHalves (limit : ℕ) (a : Terms) (f : ℚ) (b c : Terms) (g : ℚ) (d : Terms) : Type 0 where
  pub front : CanAddTerms limit a f c
  pub here : CanMultiply limit f g
  pub back : CanAddTerms limit b f d

-- what comes of it; the row's own number f in the column is replaced
abbrev pub joined_halves : ℕ → Terms → ℚ → Terms → Terms → ℚ → Terms → Terms
joined_halves j a f b c g d = (increased_by a f c ++ with_term j (f *ℚ g) []) ++ increased_by b f d

-- each product of the terms with y is defined
abbrev pub CanScaleTerms : ℕ → ℚ → Terms → Type 0
CanScaleTerms limit y terms = (e : ℕ) (d : ℕ × ℚ) → e < length terms → CanMultiply limit y (slice_index_or terms e d).1

-- the terms `out` are those of the row with the entering variable of column j replaced by the solved row
pub record IsReplaced (limit n : ℕ) (solution : Terms) (j : ℕ) (row out : Terms) : Type 0 where
  pub sparse : IsSparse n out
  pub defined : CanReplace limit (filled n solution) j (filled n row)
  pub gives : filled n out ≡ replaced (filled n solution) j (filled n row)

-- the terms are what is left of this row of n numbers, each of them within the limit
pub record IsRowOf (limit n : ℕ) (wanted : List ℚ) (terms : Terms) : Type 0 where
  pub is : IsRow limit n terms
  pub gives : filled n terms ≡ wanted
