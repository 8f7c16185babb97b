use Rattle.std.proofs.Common.{ap, ◌∙◌, min, List}
use Rattle.ground_world.specs.Bindings.{choice_count}
use Rattle.ground_world.specs.Shown.{columns_of}
use Rattle.ground_world.specs.declared.choosing.Variable.{Variable}
use Rattle.grounder.specs.ShownBlocks.{block_of}
use Rattle.grounder.proofs.ChangingBlocks.{capped-more}
use Rattle.grounder.proofs.changing_atoms.atoms_within.Goals as goal

pub loop-block-preserved : goal.loop-block-preserved
loop-block-preserved c =
    capped-more block_of c.args.blocks.now c.loop-block.block-index c.block-item.result c.loop-block.count c.choices_within-count.result c.min-count.result c.loop-block-test.true c.block-item.is
    c.loop-block.invariant (c.choices_within-count.ensures ∙ ap (λ (vs : List Variable). min 16385 (choice_count (columns_of vs))) c.as_slice.ensures) c.min-count.ensures
