use Rattle.std.proofs.Common.{◌≡◌, take}
use Rattle.lp_sparse.specs.SparseRows.{terms_of_rows}
use Rattle.lp_sparse.proofs.widening.widen_rows.Given as goal

abbrev pub invariant-loop-row : goal.invariant-loop-row
invariant-loop-row l = terms_of_rows (λ q. q) l.wide.items ≡ take l.row-index (terms_of_rows (λ q. q) l.rows)
