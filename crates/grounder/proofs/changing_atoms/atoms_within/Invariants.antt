use Rattle.std.proofs.Common.{◌≡◌, map, min, take}
use Rattle.ground_world.specs.Counts.{together}
use Rattle.grounder.specs.Blocks.{block_count}
use Rattle.grounder.specs.ShownBlocks.{blocks_of}
use Rattle.grounder.proofs.changing_atoms.atoms_within.Given as goal

abbrev pub invariant-loop-block : goal.invariant-loop-block
invariant-loop-block l = l.count ≡ min 16385 (together (map block_count (blocks_of (take l.block-index l.blocks))))
