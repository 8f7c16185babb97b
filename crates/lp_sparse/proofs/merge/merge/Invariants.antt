use Rattle.std.proofs.Common.{length}
use Rattle.lp_sparse.specs.SparseRows.{terms_of}
use Rattle.lp_sparse.proofs.Merging.{MergingOnto}
use Rattle.lp_sparse.proofs.merge.merge.Given as goal

abbrev pub invariant-loop-term : goal.invariant-loop-term
invariant-loop-term g l = let shows = terms_of g.S.Scalar.value in
    MergingOnto g.S.Scalar.limit (g.S.Scalar.value l.by) (shows l.fn.one) (shows l.fn.other) (shows l.fn.sum.items) (shows l.sum.items) (shows l.left) (shows l.right)

abbrev pub decreases-loop-term : goal.decreases-loop-term
decreases-loop-term g l = length l.right
