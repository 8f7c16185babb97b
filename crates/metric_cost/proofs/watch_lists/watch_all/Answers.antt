use Rattle.std.proofs.Common.{[], arith}
use Rattle.metric_cost.proofs.Watching.{each-more, each-all}
use Rattle.metric_cost.proofs.watch_lists.watch_all.Goals as goal

pub loop-soft-preserved : goal.loop-soft-preserved
loop-soft-preserved c = each-more c.args.softs.now c.loop-soft.soft-index c.soft-item.result c.loop-soft.watches.items c.push.new.self.items c.in_ok-watch.watch [] c.loop-soft-test.true c.soft-item.is (c.in_ok-push.ensures {u = tt}).items c.loop-soft.invariant (c.in_ok-watch.ensures {u = tt})

pub returns : goal.returns
returns c = each-all c.args.softs.now c.loop-soft.soft-index c.loop-soft.watches.items [] (omega arith) c.loop-soft.invariant
