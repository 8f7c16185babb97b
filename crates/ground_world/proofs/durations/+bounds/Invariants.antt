use Rattle.std.proofs.Common.{◌≡◌, ◌++◌, take}
use Rattle.std.specs.List.{flat_map}
use Rattle.ground_world.specs.Conditions.{duration_bounds}
use Rattle.ground_world.specs.ShownBounds.{bounds_of}
use Rattle.ground_world.proofs.durations.+bounds.Given as goal

abbrev pub invariant-push_all_bounds-loop-tree : goal.invariant-push_all_bounds-loop-tree
invariant-push_all_bounds-loop-tree l = bounds_of l.out ≡ bounds_of l.fn.out ++ flat_map (duration_bounds l.at_end) (take l.tree-index l.trees)
