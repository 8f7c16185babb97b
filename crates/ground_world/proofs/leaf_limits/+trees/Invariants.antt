use Rattle.std.proofs.Common.{◌≡◌, ℕ, min, true, take}
use Rattle.std.specs.List.{list_all}
use Rattle.ground_world.specs.Leaves.{constraint_leaves}
use Rattle.ground_world.specs.Counting.{constraint_fits}
use Rattle.ground_world.specs.Shown.{world_of}
use Rattle.ground_world.proofs.leaf_limits.+trees.Given as goal

abbrev pub invariant-all_constraints_fit-loop-tree : goal.invariant-all_constraints_fit-loop-tree
invariant-all_constraints_fit-loop-tree l = (n : ℕ) → l.outer ≡ min 1048577 n
    → list_all (λ t. list_all (constraint_fits (world_of l.tables) n) (constraint_leaves t)) (take l.tree-index l.trees) ≡ true
