use Rattle.std.proofs.Common.{◌≡◌, map, take}
use Rattle.rational.specs.Rows.{row_at}
use Rattle.rational.specs.Rational.{neg_ℚ}
use Rattle.lp_tableau.specs.RowLists.{RowFits}
use Rattle.lp_tableau.proofs.start.slack.Given as goal

abbrev pub invariant-loop-v : goal.invariant-loop-v
invariant-loop-v g l = RowFits g.S.Scalar.limit (map g.S.Scalar.value l.row.items) × map g.S.Scalar.value l.row.items ≡ take l.v (map neg_ℚ (row_at (g.P.Rows.program l.program).rows (g.R.Id.number_of l.r)).factors)
