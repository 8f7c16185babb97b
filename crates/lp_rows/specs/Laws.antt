-- Believed: what rows say of a point.
use Rattle.std.specs.Prelude.{ℕ, ◌≡◌, ◌↔◌, true, false, map}
use Rattle.rational.specs.Rational.{ℚ, zeroℚ, ◌≤ℚ◌}
use Rattle.rational.specs.Lists.{dot}
use Rattle.exact_lin.specs.Forms.{Terms, AscendFrom, Covers, coefficient, terms_at}
use Rattle.task_types.specs.Sets.{numbers}
use Rattle.rate_ledger.specs.Sums.{sum_at}
use Rattle.lp_rows.specs.StepRows.{OriginRow, Compared, compared_row}

-- a row is met at a point
abbrev pub IsMet : OriginRow → (ℕ → ℚ) → Type 0
IsMet r x = terms_at r.terms x ≤ℚ r.bound

-- The row of a comparison is met at a point exactly where its sum is at least 0 there, or at most 0.
pub record ComparedRowsAreMet : Type 0 where
  pub at_least : (c : Compared) (x : ℕ → ℚ) → c.at_least ≡ true → IsMet (compared_row c) x ↔ (zeroℚ ≤ℚ sum_at c.sum x)
  pub at_most : (c : Compared) (x : ℕ → ℚ) → c.at_least ≡ false → IsMet (compared_row c) x ↔ (sum_at c.sum x ≤ℚ zeroℚ)

-- Terms that ascend, written as one factor for each of some variables, come to the same.
abbrev pub DenseRowsAreSparse : Type 0
DenseRowsAreSparse = (size : ℕ) (ts : Terms) (x : ℕ → ℚ) → AscendFrom 0 ts → Covers size ts → dot (map (coefficient ts) (numbers size)) (map x (numbers size)) ≡ terms_at ts x
