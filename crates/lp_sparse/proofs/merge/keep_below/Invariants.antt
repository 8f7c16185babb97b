use Rattle.std.proofs.Common.{length}
use Rattle.exact_lin.proofs.Merge.{Keeping}
use Rattle.lp_sparse.specs.SparseRows.{terms_of}
use Rattle.lp_sparse.proofs.merge.keep_below.Given as goal

abbrev pub invariant-loop-first : goal.invariant-loop-first
invariant-loop-first g l = let shows = terms_of g.S.Scalar.value in
    Keeping l.column (shows l.fn.terms) (shows l.fn.sum.items) (shows l.sum.items) (shows l.rest)

abbrev pub decreases-loop-first : goal.decreases-loop-first
decreases-loop-first g l = length l.rest
