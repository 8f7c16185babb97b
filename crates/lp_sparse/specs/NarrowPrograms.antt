-- Believed: programs whose numbers all have parts of 64 bits.
use Rattle.std.specs.Prelude.{ℕ, ◌<◌, length}
use Rattle.exact_lin.specs.Reckoning.{Fits, narrow_limit}
use Rattle.cert_core.specs.Programs.{Program, entry_of, bound_of, cost_of}

-- the row's entries and its bound are such
pub record IsNarrowRow (p : Program) (r : ℕ) : Type 0 where
  pub entries : (v : ℕ) → v < length p.costs → Fits narrow_limit (entry_of p r v)
  pub bound : Fits narrow_limit (bound_of p r)

-- those of each row are, and those of the cost
pub record IsNarrow (p : Program) : Type 0 where
  pub rows : (r : ℕ) → r < length p.rows → IsNarrowRow p r
  pub costs : (v : ℕ) → v < length p.costs → Fits narrow_limit (cost_of p v)
  pub base : Fits narrow_limit p.base
