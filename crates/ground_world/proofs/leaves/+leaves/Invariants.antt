use Rattle.std.proofs.Common.{◌≡◌, ◌++◌, map, take}
use Rattle.std.specs.List.{flat_map}
use Rattle.ground_world.specs.Leaves.{constraint_leaves}
use Rattle.ground_world.specs.Insides.{inside}
use Rattle.ground_world.specs.ShownLeaves.{lists_of, constraints_of}
use Rattle.ground_world.proofs.leaves.+leaves.Given as goal

abbrev pub invariant-push_all_constraints-loop-tree : goal.invariant-push_all_constraints-loop-tree
invariant-push_all_constraints-loop-tree l = constraints_of l.out
    ≡ constraints_of l.fn.out ++ map (inside (lists_of l.around)) (flat_map constraint_leaves (take l.tree-index l.trees))
