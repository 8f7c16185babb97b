use Rattle.lp_sparse.proofs.WiderParts.{widened-next}
use Rattle.lp_sparse.proofs.widening.widen_row.Goals as goal

pub loop-term-preserved : goal.loop-term-preserved
loop-term-preserved c = widened-next c.args.row.now c.loop-term.wide.items _ c.loop-term.term-index c.term-item.result c.widen.result c.loop-term-test.true c.term-item.is c.widen.ensures.value c.in_ok-push.ensures.items c.loop-term.invariant
