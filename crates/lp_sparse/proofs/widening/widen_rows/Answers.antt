use Rattle.std.proofs.Common.{◌∙◌}
use Rattle.lp_sparse.proofs.WiderParts.{widened_rows-next}
use Rattle.lp_sparse.proofs.widening.widen_rows.Goals as goal

pub loop-row-preserved : goal.loop-row-preserved
loop-row-preserved c = widened_rows-next c.args.rows.now c.loop-row.wide.items c.push.new.self.items c.loop-row.row-index c.row-item.result c.in_ok-more.more c.loop-row-test.true c.row-item.is (c.in_ok-more.ensures ∙ c.deref.ensures.value) c.in_ok-push.ensures.items c.loop-row.invariant
