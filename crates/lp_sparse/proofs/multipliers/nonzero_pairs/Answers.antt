use Rattle.lp_sparse.proofs.Nonzeros.{pairs-next}
use Rattle.lp_sparse.proofs.multipliers.nonzero_pairs.Goals as goal

pub loop-k-preserved : goal.loop-k-preserved
loop-k-preserved g c = pairs-next g.S.Scalar.value c.args.multipliers.now c.loop-k.k c.index-multipliers-k.result c.loop-k-test.true c.index-multipliers-k.is _ _ _ c.of.ensures c.in_ok-push_pair.ensures c.loop-k.invariant
