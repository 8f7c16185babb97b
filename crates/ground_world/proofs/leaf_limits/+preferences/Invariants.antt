use Rattle.std.proofs.Common.{◌≡◌, ℕ, min, true, take}
use Rattle.std.specs.List.{list_all}
use Rattle.ground_world.specs.Leaves.{goal_preferences}
use Rattle.ground_world.specs.Counting.{preference_fits}
use Rattle.ground_world.specs.Shown.{world_of}
use Rattle.ground_world.proofs.leaf_limits.+preferences.Given as goal

abbrev pub invariant-all_preferences_fit-loop-goal : goal.invariant-all_preferences_fit-loop-goal
invariant-all_preferences_fit-loop-goal l = (n : ℕ) → l.outer ≡ min 1048577 n
    → list_all (λ g. list_all (preference_fits (world_of l.tables) n) (goal_preferences g)) (take l.goal-index l.goals) ≡ true
