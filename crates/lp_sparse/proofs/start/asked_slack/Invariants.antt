use Rattle.std.proofs.Common.{take}
use Rattle.rational.specs.Rows.{row_at}
use Rattle.lp_tableau.specs.Dictionaries.{slack_row}
use Rattle.lp_sparse.specs.SparseRows.{terms_of, IsRowOf}
use Rattle.lp_sparse.proofs.start.asked_slack.Given as goal

abbrev pub invariant-loop-v : goal.invariant-loop-v
invariant-loop-v g l = IsRowOf g.S.Scalar.limit l.v (take l.v (slack_row (row_at (g.P.Rows.program l.program).rows (g.R.Id.number_of l.r)))) (terms_of g.S.Scalar.value l.row.items)
