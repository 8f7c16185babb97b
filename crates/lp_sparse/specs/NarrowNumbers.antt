-- Private: rows and dictionaries whose numbers all have parts of 64 bits.
use Rattle.std.specs.Prelude.{ℕ, ◌<◌, List, length, slice_index_or}
use Rattle.rational.specs.Rational.{ℚ}
use Rattle.exact_lin.specs.Reckoning.{Fits, narrow_limit}
use Rattle.exact_lin.specs.Forms.{Terms}
use Rattle.lp_tableau.specs.Dictionaries.{Dictionary}
use Rattle.lp_tableau.specs.RowLists.{RowFits, RowsFit}
use Rattle.lp_sparse.specs.SparseChanges.{terms_in}

-- each term's number keeps to the limit
abbrev pub TermsFit : ℕ → Terms → Type 0
TermsFit limit terms = (k : ℕ) (d : ℕ × ℚ) → k < length terms → Fits limit (slice_index_or terms k d).1

-- those of each row do
abbrev pub RowTermsFit : ℕ → List Terms → Type 0
RowTermsFit limit rows = (i : ℕ) → i < length rows → TermsFit limit (terms_in rows i)

-- each number of the dictionary has parts of 64 bits
pub record HasNarrowNumbers (d : Dictionary) : Type 0 where
  pub rows : RowsFit narrow_limit d.rows
  pub cost : RowFits narrow_limit d.cost
