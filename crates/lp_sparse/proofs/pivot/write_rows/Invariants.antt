use Rattle.std.proofs.Common.{◌≡◌, length}
use Rattle.lp_sparse.specs.SparseRows.{terms_of_rows}
use Rattle.lp_sparse.specs.SparseChanges.{AreWithin, with_changes, changes_of}
use Rattle.lp_sparse.specs.ColumnMarks.{marks_of, AreMarked}
use Rattle.lp_sparse.proofs.pivot.write_rows.Given as goal

abbrev pub invariant-loop-k : goal.invariant-loop-k
invariant-loop-k g l = AreWithin (length l.rows.items) (changes_of g.S.Scalar.value l.left.items)
    × (with_changes (changes_of g.S.Scalar.value l.left.items) (terms_of_rows g.S.Scalar.value l.rows.items)
    ≡ with_changes (changes_of g.S.Scalar.value l.fn.changes.items) (terms_of_rows g.S.Scalar.value l.fn.rows.items))
    × AreMarked (marks_of l.marks.items) (terms_of_rows g.S.Scalar.value l.rows.items)

abbrev pub decreases-loop-k : goal.decreases-loop-k
decreases-loop-k g l = length l.left.items
