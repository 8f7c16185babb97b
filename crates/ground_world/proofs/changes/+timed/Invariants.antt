use Rattle.std.proofs.Common.{◌≡◌, ◌++◌, take}
use Rattle.std.specs.List.{flat_map}
use Rattle.ground_world.specs.Changes.{timed_effect_parts}
use Rattle.ground_world.specs.ShownChanges.{changes_of}
use Rattle.ground_world.proofs.changes.+timed.Given as goal

abbrev pub invariant-push_timed_effects-loop-tree : goal.invariant-push_timed_effects-loop-tree
invariant-push_timed_effects-loop-tree l = changes_of l.out ≡ changes_of l.fn.out ++ flat_map timed_effect_parts (take l.tree-index l.trees)
