use Rattle.lp_sparse.specs.ColumnMarks.{marks_of}
use Rattle.lp_sparse.proofs.Marking.{mark_row-next}
use Rattle.lp_sparse.proofs.marks.mark_row.Goals as goal

pub loop-term-preserved : goal.loop-term-preserved
loop-term-preserved g c = (
  mark_row-next g.S.Scalar.value c.args.row.now c.loop-term.term-index c.term-item.result (marks_of c.loop-term.marks.items) (marks_of c.mark.new.marks.items) c.args.k c.loop-term-test.true c.term-item.is c.mark.ensures.kept c.mark.ensures.here c.loop-term.invariant.0,
  λ d m f. c.loop-term.invariant.1 d m (c.mark.ensures.kept d m f),
)
