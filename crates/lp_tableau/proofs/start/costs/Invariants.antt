use Rattle.std.proofs.Common.{◌≡◌, map, take}
use Rattle.lp_tableau.proofs.start.costs.Given as goal

abbrev pub invariant-loop-v : goal.invariant-loop-v
invariant-loop-v g l = map g.S.Scalar.value l.row.items ≡ take l.v (g.P.Rows.program l.program).costs
