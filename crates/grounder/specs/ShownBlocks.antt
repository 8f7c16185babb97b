-- Private: the predicates with their parameters that the code holds.
use Rattle.std.specs.Prelude.{List, map}
use Rattle.ground_world.specs.Shown.{columns_of}
use Rattle.grounder.specs.Blocks as blocks
use Rattle.grounder.specs.declared.changing_atoms.Block.{Block}

abbrev pub block_of : Block → blocks.Block
block_of b = (b.predicate, columns_of b.parameters)

abbrev pub blocks_of : List Block → List blocks.Block
blocks_of bs = map block_of bs
