-- Believed: a pivot, in which the equation of a basic variable is solved for a nonbasic one that takes its place.
use Rattle.std.specs.Prelude.{◌≡◌, ℕ, ◌<◌, List, length, map, slice_set}
use Rattle.rational.specs.Rational.{ℚ, zeroℚ, neg_ℚ, inverse}
use Rattle.rational.specs.Lists.{add_list, scale_list, at}
use Rattle.exact_lin.specs.Reckoning.{CanMultiply}
use Rattle.exact_lin.specs.Reckonings.{AreDefined, product_sum}
use Rattle.lp_tableau.specs.Dictionaries.{Dictionary, row_in, row_of, basic_of, nonbasic_of}

-- the row solved for the variable of column j: each number times -1/p, p being the entry there, and 1/p in that column, which is now the leaving variable's
abbrev pub solved : List ℚ → ℕ → List ℚ
solved row j = slice_set (scale_list (neg_ℚ (inverse (at row j))) row) j (inverse (at row j))

-- the row with nothing in column j
abbrev pub cleared : List ℚ → ℕ → List ℚ
cleared row j = slice_set row j zeroℚ

-- the row with the entering variable of column j replaced: each old number, there 0, plus the entry of that column times the solved row's number
abbrev pub replaced : List ℚ → ℕ → List ℚ → List ℚ
replaced solution j row = add_list (cleared row j) (scale_list (at row j) solution)

-- every row with the entering variable replaced, but the one at i, which is the solved row
abbrev pub replaced_rows : List ℚ → ℕ → ℕ → List (List ℚ) → List (List ℚ)
replaced_rows solution i j rows = slice_set (map (replaced solution j) rows) i solution

-- the dictionary after the pivot in which the basic variable at i leaves and the nonbasic variable at j enters
abbrev pub pivoted : Dictionary → ℕ → ℕ → Dictionary
pivoted d i j = record {
  basic = slice_set d.basic i (nonbasic_of d j);
  nonbasic = slice_set d.nonbasic j (basic_of d i);
  rows = replaced_rows (solved (row_of d i) j) i j d.rows;
  cost = replaced (solved (row_of d i) j) j d.cost;
}

-- each product of the solved row is defined within the limit
abbrev pub CanSolve : ℕ → List ℚ → ℕ → Type 0
CanSolve limit row j = (k : ℕ) → k < length row → CanMultiply limit (neg_ℚ (inverse (at row j))) (at row k)

-- each product and each sum of the replaced row is defined within the limit
abbrev pub CanReplace : ℕ → List ℚ → ℕ → List ℚ → Type 0
CanReplace limit solution j row = (k : ℕ) → k < length row → AreDefined limit (product_sum (at (cleared row j) k) (at row j) (at solution k))

-- that holds of every row but the one at i
abbrev pub CanReplaceOthers : ℕ → List ℚ → ℕ → ℕ → List (List ℚ) → Type 0
CanReplaceOthers limit solution i j rows = (k : ℕ) → k < length rows → ¬ (k ≡ i) → CanReplace limit solution j (row_in rows k)

-- that holds of every row but the leaving one, and of the cost
pub record CanReplaceAll (limit : ℕ) (d : Dictionary) (solution : List ℚ) (i j : ℕ) : Type 0 where
  pub others : CanReplaceOthers limit solution i j d.rows
  pub cost : CanReplace limit solution j d.cost

-- each product and each sum of the pivot is defined within the limit: those of the leaving row, of every other row and of the cost
pub record CanPivot (limit : ℕ) (d : Dictionary) (i j : ℕ) : Type 0 where
  pub leaving : CanSolve limit (row_of d i) j
  pub all : CanReplaceAll limit d (solved (row_of d i) j) i j
