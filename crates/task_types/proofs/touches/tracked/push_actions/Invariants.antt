use Rattle.std.proofs.Common.{◌≡◌, ◌++◌, take}
use Rattle.std.specs.List.{flat_map}
use Rattle.task_types.specs.Touch.{action_tracked}
use Rattle.task_types.proofs.touches.tracked.push_actions.Given as goal

abbrev pub invariant-loop-action : goal.invariant-loop-action
invariant-loop-action l = l.out ≡ l.fn.out ++ flat_map action_tracked (take l.action-index l.actions)
