use Rattle.std.proofs.Common.{◌≡◌, ◌++◌, map, take}
use Rattle.std.specs.List.{flat_map}
use Rattle.ground_world.specs.Leaves.{leaf_envs}
use Rattle.ground_world.specs.ShownLeaves.{preferences_of}
use Rattle.grounder.specs.ShownGrounding.{ground_of}
use Rattle.grounder.specs.Task.{goal_soft}
use Rattle.grounder.proofs.terms.push_all_goal_terms.Given as goal

abbrev pub invariant-loop-leaf : goal.invariant-loop-leaf
invariant-loop-leaf l =
    l.out ≡ l.fn.out ++ flat_map (λ p. map (goal_soft (ground_of l.grounding) p) (leaf_envs (ground_of l.grounding).world p)) (preferences_of (take l.leaf-index l.leaves))
