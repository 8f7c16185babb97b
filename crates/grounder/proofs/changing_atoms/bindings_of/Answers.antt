use Rattle.std.proofs.Common.{[]}
use Rattle.grounder.specs.Blocks.{block_atoms}
use Rattle.grounder.specs.ShownBlocks.{block_of}
use Rattle.grounder.proofs.OneByOne.{added_of_more}
use Rattle.grounder.proofs.ChangingBlocks.{block-within}
use Rattle.grounder.proofs.changing_atoms.bindings_of.Goals as goal

pub add_block-requires : goal.add_block-requires
add_block-requires c = block-within block_of c.args.blocks.now c.loop-block.block-index c.block-item.result c.loop-block-test.true c.block-item.is c.requires

pub loop-block-preserved : goal.loop-block-preserved
loop-block-preserved c =
    added_of_more c.args.blocks.now c.loop-block.block-index c.block-item.result c.loop-block-test.true c.block-item.is
    block_of block_atoms [] c.loop-block.atoms c.add_block.new.atoms c.loop-block.invariant c.in_ok-add_block.ensures
