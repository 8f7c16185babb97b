use Rattle.grounder.proofs.ChangingBlocks.{key-more}
use Rattle.grounder.proofs.changing_atoms.add_bound.Goals as goal

pub loop-bound-preserved : goal.loop-bound-preserved
loop-bound-preserved c =
    key-more c.args.predicate c.args.env.now c.loop-bound.bound-index c.bound-item.result c.loop-bound.key _ c.loop-bound-test.true c.bound-item.is c.loop-bound.invariant c.in_ok-push-2.ensures.ok
