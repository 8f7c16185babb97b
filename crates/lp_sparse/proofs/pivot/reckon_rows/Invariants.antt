use Rattle.std.proofs.Common.{◌≤◌, ◌-◌, length, take}
use Rattle.lp_sparse.specs.SparseRows.{terms_of_rows}
use Rattle.lp_sparse.specs.SparseChanges.{AreChanges, Becomes, changes_of}
use Rattle.lp_sparse.specs.SparsePivots.{whole_of}
use Rattle.lp_sparse.specs.SparseTableaus.{width_of}
use Rattle.lp_sparse.proofs.pivot.reckon_rows.Given as goal

abbrev pub invariant-loop-k : goal.invariant-loop-k
invariant-loop-k g l = (l.k ≤ length l.t.rows.items)
    × AreChanges (Becomes g.S.Scalar.limit (width_of l.t) (whole_of g.S.Scalar.value l.j l.solution) l.i l.j) 0
    (take l.k (terms_of_rows g.S.Scalar.value l.t.rows.items)) (changes_of g.S.Scalar.value l.changes.items)

abbrev pub decreases-loop-k : goal.decreases-loop-k
decreases-loop-k g l = l.count - l.k
