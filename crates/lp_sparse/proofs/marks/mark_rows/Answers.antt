use Rattle.std.proofs.Common.{subst, sym, arith}
use Rattle.lp_sparse.specs.SparseRows.{terms_of_rows}
use Rattle.lp_sparse.specs.ColumnMarks.{marks_of, IsMarked}
use Rattle.lp_sparse.proofs.Marking.{AreMarked-next, AreMarked-all}
use Rattle.lp_sparse.proofs.RowReads.{terms_in-read, length-terms_of_rows}
use Rattle.lp_sparse.proofs.marks.mark_rows.Goals as goal

pub loop-k-preserved : goal.loop-k-preserved
loop-k-preserved g c = AreMarked-next (marks_of c.loop-k.marks.items) (marks_of c.mark_row.new.marks.items) (terms_of_rows g.S.Scalar.value c.args.rows.now) c.loop-k.k c.mark_row.ensures.kept
    (subst (IsMarked (marks_of c.mark_row.new.marks.items) c.loop-k.k) (sym (terms_in-read g.S.Scalar.value c.args.rows.now c.loop-k.k c.index-rows-k.result c.deref.result.now (omega arith) c.index-rows-k.is c.deref.ensures.value)) c.mark_row.ensures.here)
    c.loop-k.invariant

pub returns : goal.returns
returns g c = AreMarked-all (marks_of c.loop-k.marks.items) (terms_of_rows g.S.Scalar.value c.args.rows.now) c.loop-k.k (omega (arith, length-terms_of_rows g.S.Scalar.value c.args.rows.now)) c.loop-k.invariant
