use Rattle.plan_files.proofs.Counts.{CountLeft}
use Rattle.plan_files.proofs.order_lines.count_of.Given as goal

abbrev pub invariant-loop-b : goal.invariant-loop-b
invariant-loop-b l = CountLeft l.bytes l.n l.b-index
