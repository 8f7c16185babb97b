use Rattle.std.proofs.Common.{◌≡◌, ◌++◌, map, take}
use Rattle.std.specs.List.{flat_map}
use Rattle.ground_world.specs.Leaves.{goal_preferences}
use Rattle.ground_world.specs.Insides.{inside}
use Rattle.ground_world.specs.ShownLeaves.{lists_of, preferences_of}
use Rattle.ground_world.proofs.leaves.+preferences.Given as goal

abbrev pub invariant-push_all_preferences-loop-part : goal.invariant-push_all_preferences-loop-part
invariant-push_all_preferences-loop-part l = preferences_of l.out
    ≡ preferences_of l.fn.out ++ map (inside (lists_of l.around)) (flat_map goal_preferences (take l.part-index l.goals))
