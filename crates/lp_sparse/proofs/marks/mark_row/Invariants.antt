use Rattle.std.proofs.Common.{take}
use Rattle.lp_sparse.specs.SparseRows.{terms_of}
use Rattle.lp_sparse.specs.ColumnMarks.{marks_of, IsMarked, Keeps}
use Rattle.lp_sparse.proofs.marks.mark_row.Given as goal

abbrev pub invariant-loop-term : goal.invariant-loop-term
invariant-loop-term g l = IsMarked (marks_of l.marks.items) l.k (take l.term-index (terms_of g.S.Scalar.value l.row))
    × Keeps (marks_of l.fn.marks.items) (marks_of l.marks.items)
