use Rattle.std.proofs.Common.{take}
use Rattle.task_types.specs.Related.{IsPut}
use Rattle.task_types.proofs.touches.index.put_in_rows.Given as goal

abbrev pub invariant-loop-number : goal.invariant-loop-number
invariant-loop-number l = IsPut l.fn.rows.items l.rows.items (take l.number-index l.numbers) l.put
