use Rattle.std.proofs.Common.{◌≡◌, [], take}
use Rattle.std.specs.List.{flat_map}
use Rattle.pddl_names.specs.Declarations.{with_new}
use Rattle.grounder.specs.Blocks.{block_atoms}
use Rattle.grounder.specs.ShownBlocks.{blocks_of}
use Rattle.grounder.proofs.changing_atoms.bindings_of.Given as goal

abbrev pub invariant-loop-block : goal.invariant-loop-block
invariant-loop-block l = l.atoms ≡ with_new [] (flat_map block_atoms (blocks_of (take l.block-index l.blocks)))
