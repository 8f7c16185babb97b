use Rattle.std.proofs.Common.{take}
use Rattle.task_types.specs.Related.{HaveTouches}
use Rattle.task_types.proofs.touches.touch_rows.filled_rows.Given as goal

abbrev pub invariant-loop-place : goal.invariant-loop-place
invariant-loop-place l = HaveTouches l.parts l.rows.items (take l.place l.tokens)
