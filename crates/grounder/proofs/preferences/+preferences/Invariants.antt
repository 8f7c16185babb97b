use Rattle.std.proofs.Common.{◌≡◌, ◌++◌, take}
use Rattle.std.specs.List.{flat_map}
use Rattle.ground_world.specs.Shown.{world_of}
use Rattle.grounder.specs.ShownPreferences.{preferences_of}
use Rattle.grounder.specs.Terms.{preference_parts}
use Rattle.grounder.proofs.preferences.+preferences.Given as goal

abbrev pub invariant-push_preferences-loop-tree : goal.invariant-push_preferences-loop-tree
invariant-push_preferences-loop-tree l =
    preferences_of l.out ≡ preferences_of l.fn.out ++ flat_map (preference_parts (world_of l.tables)) (take l.tree-index l.trees)
