use Rattle.std.proofs.Common.{take}
use Rattle.task_types.specs.Related.{ArePut}
use Rattle.task_types.proofs.touches.touch_rows.put_each.Given as goal

abbrev pub invariant-loop-snap : goal.invariant-loop-snap
invariant-loop-snap l = ArePut l.fn.rows.items l.rows.items l.entry.0 l.entry.1 (take l.snap-index l.snaps)
