use Rattle.std.proofs.Common.{◌≡◌, true, take}
use Rattle.std.specs.List.{list_all}
use Rattle.ground_world.specs.Counting.{action_fits}
use Rattle.ground_world.specs.Shown.{world_of}
use Rattle.ground_world.proofs.bindings_limit.actions_fit.Given as goal

abbrev pub invariant-loop-action : goal.invariant-loop-action
invariant-loop-action l = list_all (action_fits (world_of l.tables)) (take l.action-index l.actions) ≡ true
