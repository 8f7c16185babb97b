-- Believed: rows `a₁ x₁ + a₂ x₂ + .. ≤ b` of a system of linear inequalities.
use Rattle.std.specs.Prelude.{ℕ, List, [], ◌∷◌, slice_index_or}
use Rattle.rational.specs.Rational.{ℚ, zeroℚ, ◌+ℚ◌, ◌*ℚ◌, ◌≤ℚ◌}
use Rattle.rational.specs.Lists.{dot, add_list, scale_list}

-- the row: factors a₁, a₂, .. and the bound b
pub record Row : Type 0 where
  pub factors : List ℚ
  pub bound : ℚ

-- the row without factors, with the bound 0
abbrev pub no_row : Row
no_row = record { factors = []; bound = zeroℚ }

-- the row at a place; `no_row` past the end
abbrev pub row_at : List Row → ℕ → Row
row_at rows r = slice_index_or rows r no_row

-- the sum of the rows, each times its multiplier
abbrev pub sum_rows : List ℚ → List Row → Row
sum_rows [] rs = record { factors = []; bound = zeroℚ }
sum_rows (y ∷ ys) [] = record { factors = []; bound = zeroℚ }
sum_rows (y ∷ ys) (r ∷ rs) = record { factors = add_list (scale_list y r.factors) (sum_rows ys rs).factors; bound = y *ℚ r.bound +ℚ (sum_rows ys rs).bound }

-- the point x meets each row
abbrev pub Meets : List ℚ → List Row → Type 0
Meets x [] = Unit {0}
Meets x (r ∷ rs) = dot r.factors x ≤ℚ r.bound × Meets x rs
