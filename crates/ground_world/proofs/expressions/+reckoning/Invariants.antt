use Rattle.std.proofs.Common.{◌≡◌, ◌+◌, ◌*◌, ◌++◌, max, map, take}
use Rattle.std.specs.List.{flat_map}
use Rattle.ground_world.specs.Expressions.{all_values}
use Rattle.ground_world.specs.Operations.{operands_of}
use Rattle.ground_world.specs.Readings.{reckoned_in}
use Rattle.ground_world.proofs.Heights.{greatest, height}
use Rattle.ground_world.proofs.expressions.+reckoning.Given as goal

abbrev pub decreases-reckon : goal.decreases-reckon
decreases-reckon l = 2 * height l.tree.now

abbrev pub decreases-reckon_list : goal.decreases-reckon_list
decreases-reckon_list l = 2 * greatest (map height l.trees.now) + 1

abbrev pub decreases-reckon_negative : goal.decreases-reckon_negative
decreases-reckon_negative l = 2 * height l.part.now + 1

abbrev pub decreases-reckon_difference : goal.decreases-reckon_difference
decreases-reckon_difference l = 2 * max (height l.left.now) (height l.right.now) + 1

abbrev pub decreases-reckon_quotient : goal.decreases-reckon_quotient
decreases-reckon_quotient l = 2 * max (height l.left.now) (height l.right.now) + 1

abbrev pub invariant-reckon_list-loop-tree : goal.invariant-reckon_list-loop-tree
invariant-reckon_list-loop-tree l = (operands_of l.operands ≡ all_values (map (reckoned_in l.reading) (take l.tree-index l.trees)))
    × (l.flaws ≡ l.fn.flaws ++ flat_map (λ r. r.flaws) (map (reckoned_in l.reading) (take l.tree-index l.trees)))
