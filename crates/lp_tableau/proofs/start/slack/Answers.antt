use Rattle.std.proofs.Common.{◌∙◌, ap, map, arith}
use Rattle.cert_core.specs.Programs.{entry_of}
use Rattle.lp_tableau.proofs.FittingRows.{RowFits-push}
use Rattle.lp_tableau.proofs.Growing.{slack-next, slack-all}
use Rattle.lp_tableau.proofs.start.slack.Goals as goal

pub loop-v-preserved : goal.loop-v-preserved
loop-v-preserved g c = (
  RowFits-push g.S.Scalar.value g.S.Scalar.limit c.loop-v.row.items _ c.kept.result c.in_ok-push.ensures.items c.loop-v.invariant.0 c.kept.ensures.fits,
  ap (map g.S.Scalar.value) c.in_ok-push.ensures.items ∙ slack-next g.S.Scalar.value (g.P.Rows.program c.args.program.now) (g.met.P.Rows.even c.args.program.now) (g.R.Id.number_of c.args.r) c.requires c.loop-v.row.items c.kept.result c.entry.result c.loop-v.v
      (omega (arith, c.var_count-variables.ensures)) c.loop-v.invariant.1 (c.entry.ensures ∙ ap (entry_of (g.P.Rows.program c.args.program.now) (g.R.Id.number_of c.args.r)) c.of.ensures) (c.kept.ensures.value ∙ c.neg.ensures),
)

pub returns-clause-row : goal.returns-clause-row
returns-clause-row g c = ap (map g.S.Scalar.value) c.in_ok-push-2.ensures.items ∙ slack-all g.S.Scalar.value (g.P.Rows.program c.args.program.now) (g.met.P.Rows.even c.args.program.now) (g.R.Id.number_of c.args.r) c.requires c.loop-v.row.items c.kept-2.result c.loop-v.v
    (omega (arith, c.var_count-variables.ensures)) c.loop-v.invariant.1 (c.kept-2.ensures.value ∙ c.bound.ensures)

pub returns-clause-fits : goal.returns-clause-fits
returns-clause-fits g c = RowFits-push g.S.Scalar.value g.S.Scalar.limit c.loop-v.row.items _ c.kept-2.result c.in_ok-push-2.ensures.items c.loop-v.invariant.0 c.kept-2.ensures.fits
