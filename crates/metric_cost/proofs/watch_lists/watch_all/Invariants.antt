use Rattle.std.proofs.Common.{take, []}
use Rattle.metric_cost.specs.Watching.{WatchEach}
use Rattle.metric_cost.proofs.watch_lists.watch_all.Given as goal

abbrev pub invariant-loop-soft : goal.invariant-loop-soft
invariant-loop-soft l = WatchEach (take l.soft-index l.softs) l.watches.items []
