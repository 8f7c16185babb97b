use Rattle.std.proofs.Common.{ℕ, ◌<◌}
use Rattle.lp_sparse.specs.SparseRows.{terms_of_rows}
use Rattle.lp_sparse.specs.SparseChanges.{terms_in}
use Rattle.lp_sparse.specs.ColumnMarks.{marks_of, IsMarked}
use Rattle.lp_sparse.proofs.marks.mark_rows.Given as goal

abbrev pub invariant-loop-k : goal.invariant-loop-k
invariant-loop-k g l = (m : ℕ) → m < l.k → IsMarked (marks_of l.marks.items) m (terms_in (terms_of_rows g.S.Scalar.value l.rows) m)
