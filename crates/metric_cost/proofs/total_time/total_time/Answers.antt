use Rattle.metric_cost.proofs.Latest.{latest-begin, latest-more}
use Rattle.metric_cost.proofs.total_time.total_time.Goals as goal

pub loop-line-init : goal.loop-line-init
loop-line-init c = latest-begin c.args.lines.now c.in-Some.rest.now c.in-Some.first.now c.end_of.result c.greater-last.result c.in-Some.ensures.cases.0 c.end_of.ensures c.greater-last.ensures

pub loop-line-preserved : goal.loop-line-preserved
loop-line-preserved c = latest-more c.loop-line.last _ c.in-Some.rest.now c.loop-line.line-index c.line-item.result c.end_of-in-loop-line.result c.greater.result c.greater-last-in-loop-line.result
    c.loop-line-test.true c.line-item.is c.end_of-in-loop-line.ensures c.greater.ensures c.greater-last-in-loop-line.ensures c.loop-line.invariant
