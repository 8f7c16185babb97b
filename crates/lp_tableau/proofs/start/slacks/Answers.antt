use Rattle.std.proofs.Common.{◌∙◌, ap, arith}
use Rattle.rational.specs.Rows.{row_at}
use Rattle.lp_tableau.specs.Dictionaries.{slack_row}
use Rattle.lp_tableau.specs.RowLists.{shown_rows}
use Rattle.lp_tableau.proofs.FittingRows.{RowsFit-push}
use Rattle.lp_tableau.proofs.Growing.{slacks-next}
use Rattle.lp_tableau.proofs.start.slacks.Goals as goal

pub loop-r-preserved : goal.loop-r-preserved
loop-r-preserved g c = (
  RowsFit-push g.S.Scalar.value g.S.Scalar.limit c.loop-r.rows.items _ _ c.in_ok-push.ensures.items c.loop-r.invariant.0 c.in_ok-slack.ensures.fits,
  ap (shown_rows g.S.Scalar.value) c.in_ok-push.ensures.items ∙ slacks-next g.S.Scalar.value (g.P.Rows.program c.args.program.now) c.loop-r.rows.items _ c.loop-r.r
      (omega (arith, c.row_count-count.ensures)) c.loop-r.invariant.1 (c.in_ok-slack.ensures.row ∙ ap (λ n. slack_row (row_at (g.P.Rows.program c.args.program.now).rows n)) c.of.ensures),
)
