use Rattle.std.proofs.Common.{◌≡◌, take}
use Rattle.task_types.specs.Order.{running}
use Rattle.rate_ledger.proofs.running.running_after.Given as goal

abbrev pub invariant-loop-step : goal.invariant-loop-step
invariant-loop-step l = l.running ≡ running l.task.parts (take l.step-index l.steps)
