use Rattle.ground_world.specs.Shown.{world_of}
use Rattle.grounder.specs.ShownBlocks.{blocks_of}
use Rattle.grounder.proofs.ChangingBlocks.{gone-more}
use Rattle.grounder.proofs.changing_atoms.changing.Goals as goal

pub loop-declared-preserved : goal.loop-declared-preserved
loop-declared-preserved c =
    gone-more (world_of c.args.tables.now) c.args.declarations.now c.requires c.loop-declared.declared-index c.declared-item.result c.loop-declared-test.true c.declared-item.is
    (blocks_of c.loop-declared.out) (blocks_of c.push_declared.new.out) c.loop-declared.count c.in_ok-count.count c.loop-declared.invariant c.in_ok-count.ensures.blocks c.in_ok-count.ensures.count
