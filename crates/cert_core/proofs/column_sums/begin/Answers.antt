use Rattle.std.proofs.Common.{◌∙◌, arith}
use Rattle.std.proofs.lemmas.List.{length-set}
use Rattle.cert_core.specs.Checks.{claim_of}
use Rattle.cert_core.proofs.AddedSums.{HaveBegun-next, HaveBegun-all}
use Rattle.cert_core.proofs.column_sums.begin.Goals as goal

pub loop-number-preserved : goal.loop-number-preserved
loop-number-preserved g c = (
  length-set _ _ _ ∙ c.loop-number.invariant.0,
  HaveBegun-next g.S.Scalar.value g.S.Scalar.limit _ c.loop-number.sums c.loop-number.number _ c.column_start_of-start.result (omega (arith, c.var_count-number-end.ensures, c.loop-number.invariant.0)) c.of.ensures c.column_start_of-start.ensures c.sign-sign.ensures.fits c.loop-number.invariant.1,
)

pub returns : goal.returns
returns g c = HaveBegun-all g.S.Scalar.value g.S.Scalar.limit (g.P.Rows.program c.args.program.now) (claim_of g.S.Scalar.value c.args.claim) c.loop-number.sums c.loop-number.number (omega (arith, c.var_count-number-end.ensures)) c.loop-number.invariant.0 c.loop-number.invariant.1
