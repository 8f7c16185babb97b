use Rattle.std.proofs.Common.{◌≡◌, ◌++◌, take}
use Rattle.std.specs.List.{flat_map}
use Rattle.ground_world.specs.ShownLeaves.{constraints_of}
use Rattle.grounder.specs.ShownGrounding.{ground_of}
use Rattle.grounder.specs.Task.{soft_of}
use Rattle.grounder.proofs.constraint_terms.push_all_soft.Given as goal

abbrev pub invariant-loop-leaf : goal.invariant-loop-leaf
invariant-loop-leaf l = l.out ≡ l.fn.out ++ flat_map (soft_of (ground_of l.grounding)) (constraints_of (take l.leaf-index l.leaves))
