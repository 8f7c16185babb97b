use Rattle.std.proofs.Common.{◌+◌, ◌≤◌, length}
use Rattle.ordering.specs.Orderings.{BuiltOver}
use Rattle.plan_files.specs.Lines.{lines_of, written_from, written_lines}
use Rattle.plan_files.specs.BegunOrders.{begun_seen}
use Rattle.plan_files.proofs.OrderProgress.{Going}
use Rattle.plan_files.proofs.orders.order_from.Given as goal

-- the lines before the rest have become what is begun
abbrev pub invariant-loop-written : goal.invariant-loop-written
invariant-loop-written l = record {
  going : Going l.names.task.now.parts (written_lines l.text) (begun_seen l.begun) (written_from l.number (lines_of l.rest));
  over : BuiltOver l.names.task.now.parts l.begun.order;
  within : l.number + length l.rest ≤ 1 + length l.text;
}

abbrev pub decreases-loop-written : goal.decreases-loop-written
decreases-loop-written l = length l.rest
