use Rattle.std.proofs.Common.{take}
use Rattle.ground_world.specs.FirstState.{signatures_of}
use Rattle.ground_world.specs.Shown.{world_of}
use Rattle.grounder.specs.ShownBlocks.{blocks_of}
use Rattle.grounder.proofs.ChangingBlocks.{Gone}
use Rattle.grounder.proofs.changing_atoms.changing.Given as goal

abbrev pub invariant-loop-declared : goal.invariant-loop-declared
invariant-loop-declared l = Gone (world_of l.tables) (signatures_of (take l.declared-index l.declarations)) (blocks_of l.out) l.count
