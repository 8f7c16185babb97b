use Rattle.std.proofs.Common.{length}
use Rattle.rational.specs.Rows.{row_at}
use Rattle.exact_lin.specs.Forms.{shown}
use Rattle.lp_tableau.specs.Dictionaries.{slack_row}
use Rattle.lp_sparse.specs.SparseRows.{terms_of}
use Rattle.lp_sparse.proofs.FirstRows.{Negates}
use Rattle.lp_sparse.proofs.start.told_slack.Given as goal

abbrev pub invariant-loop-term : goal.invariant-loop-term
invariant-loop-term g l = let p = g.P.Rows.program l.program in
    Negates g.S.Scalar.limit (length p.costs) (slack_row (row_at p.rows (g.R.Id.number_of l.r)))
    (terms_of g.S.Scalar.value l.row.items) (shown g.V.Id.number_of g.S.Scalar.value l.left)

abbrev pub decreases-loop-term : goal.decreases-loop-term
decreases-loop-term g l = length l.left
