use Rattle.std.proofs.Common.{◌∙◌}
use Rattle.lp_tableau.proofs.Growing.{numbers-next}
use Rattle.lp_sparse.proofs.start.numbers.Goals as goal

pub loop-k-preserved : goal.loop-k-preserved
loop-k-preserved c = c.in_ok-push.ensures.items ∙ numbers-next c.args.start c.loop-k.k c.loop-k.numbers.items c.loop-k.invariant
