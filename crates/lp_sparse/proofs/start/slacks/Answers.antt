use Rattle.std.proofs.Common.{◌<◌, ◌+◌, ◌∙◌, ap, length, arith, subst, ℕ}
use Rattle.rational.specs.Rows.{row_at}
use Rattle.lp_tableau.specs.Dictionaries.{slack_row}
use Rattle.lp_sparse.specs.SparseRows.{terms_of, IsRowOf}
use Rattle.lp_sparse.proofs.FirstRows.{slacks-next}
use Rattle.lp_sparse.proofs.start.slacks.Goals as goal

pub loop-r-preserved : goal.loop-r-preserved
loop-r-preserved g c =
    let p = g.P.Rows.program c.args.program.now in
    slacks-next g.S.Scalar.value g.S.Scalar.limit (length p.costs + 1) p.rows c.loop-r.rows.items _ _ c.loop-r.r c.in_ok-push.ensures.items (omega (arith, c.row_count-count.ensures))
    (subst (λ (m : ℕ). IsRowOf g.S.Scalar.limit (length p.costs + 1) (slack_row (row_at p.rows m)) (terms_of g.S.Scalar.value c.in_ok-row.row.items)) c.of.ensures c.in_ok-row.ensures) c.loop-r.invariant
