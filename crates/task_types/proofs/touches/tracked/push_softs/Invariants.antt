use Rattle.std.proofs.Common.{◌≡◌, ◌++◌, take}
use Rattle.std.specs.List.{flat_map}
use Rattle.task_types.specs.Touch.{soft_fluents}
use Rattle.task_types.proofs.touches.tracked.push_softs.Given as goal

abbrev pub invariant-loop-soft : goal.invariant-loop-soft
invariant-loop-soft l = l.out ≡ l.fn.out ++ flat_map soft_fluents (take l.soft-index l.softs)
