use Rattle.std.proofs.Common.{◌≡◌, ◌++◌, take}
use Rattle.std.specs.List.{flat_map}
use Rattle.task_types.specs.Touch.{snap_tracked}
use Rattle.task_types.proofs.touches.tracked.push_snaps.Given as goal

abbrev pub invariant-loop-snap : goal.invariant-loop-snap
invariant-loop-snap l = l.out ≡ l.fn.out ++ flat_map snap_tracked (take l.snap-index l.snaps)
