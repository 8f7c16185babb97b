use Rattle.rational.proofs.Inequalities.{lt_not_le}
use Rattle.cert_core.proofs.PairLoops.{sign-next, sign-unmet}
use Rattle.cert_core.proofs.check.check_signs.Goals as goal

pub returns-then-is_negative : goal.returns-then-is_negative
returns-then-is_negative g c = sign-unmet g.R.Id.number_of g.S.Scalar.value c.args.pairs.now c.loop-pair.pair-index c.pair-item.result c.loop-pair-test.true c.pair-item.is (lt_not_le _ _ (c.if-is_negative.ensures {u = tt})) c.loop-pair.invariant

pub loop-pair-preserved : goal.loop-pair-preserved
loop-pair-preserved g c = sign-next g.R.Id.number_of g.S.Scalar.value c.args.pairs.now c.loop-pair.pair-index c.pair-item.result c.loop-pair-test.true c.pair-item.is (c.if-is_negative.ensures {u = tt}).0 c.loop-pair.invariant
