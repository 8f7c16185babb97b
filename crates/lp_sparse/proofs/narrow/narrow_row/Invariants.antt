use Rattle.std.proofs.Common.{◌≡◌, take}
use Rattle.exact_lin.specs.Reckoning.{narrow_limit}
use Rattle.lp_sparse.specs.SparseRows.{terms_of}
use Rattle.lp_sparse.proofs.NarrowParts.{FirstFit}
use Rattle.lp_sparse.proofs.narrow.narrow_row.Given as goal

abbrev pub invariant-loop-term : goal.invariant-loop-term
invariant-loop-term l = l.out.items ≡ take l.term-index l.row × FirstFit narrow_limit (terms_of (λ q. q) l.row) l.term-index
