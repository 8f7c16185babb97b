use Rattle.std.proofs.Common.{◌≡◌, ◌++◌}
use Rattle.lp_rows.proofs.Placing.{linked}
use Rattle.lp_rows.proofs.links.push_link_rows.Given as goal

abbrev pub invariant-loop-number : goal.invariant-loop-number
invariant-loop-number l = l.out ≡ l.fn.out ++ linked l.task.parts l.rules (record { steps = l.steps; extra = l.extra }) l.second l.number
