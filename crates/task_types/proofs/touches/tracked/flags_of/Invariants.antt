use Rattle.std.proofs.Common.{take}
use Rattle.task_types.specs.Related.{IsFlags}
use Rattle.task_types.proofs.touches.tracked.flags_of.Given as goal

abbrev pub invariant-loop-number : goal.invariant-loop-number
invariant-loop-number l = IsFlags l.flags.items l.count (take l.number-index l.numbers)
