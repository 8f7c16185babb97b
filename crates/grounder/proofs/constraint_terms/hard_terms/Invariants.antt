use Rattle.std.proofs.Common.{◌≡◌, ◌++◌, take}
use Rattle.std.specs.List.{flat_map}
use Rattle.ground_world.specs.ShownLeaves.{constraints_of}
use Rattle.grounder.specs.ShownGrounding.{ground_of}
use Rattle.grounder.specs.Task.{hard_of}
use Rattle.grounder.proofs.constraint_terms.hard_terms.Given as goal

abbrev pub invariant-loop-leaf : goal.invariant-loop-leaf
invariant-loop-leaf l = l.out ≡ flat_map (hard_of (ground_of l.grounding)) (constraints_of (take l.leaf-index l.leaves))
