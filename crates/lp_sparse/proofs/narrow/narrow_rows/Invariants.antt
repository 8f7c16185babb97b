use Rattle.std.proofs.Common.{◌≡◌, take}
use Rattle.exact_lin.specs.Reckoning.{narrow_limit}
use Rattle.lp_sparse.specs.SparseRows.{terms_of_rows}
use Rattle.lp_sparse.proofs.NarrowParts.{FirstRowsFit}
use Rattle.lp_sparse.proofs.narrow.narrow_rows.Given as goal

abbrev pub invariant-loop-row : goal.invariant-loop-row
invariant-loop-row l = terms_of_rows (λ q. q) l.out.items ≡ take l.row-index (terms_of_rows (λ q. q) l.rows) × FirstRowsFit narrow_limit (terms_of_rows (λ q. q) l.rows) l.row-index
