use Rattle.std.proofs.Common.{◌≡◌, take}
use Rattle.std.specs.List.{flat_map}
use Rattle.task_types.specs.Plan.{action_of, snap_of}
use Rattle.task_types.specs.Course.{entries_of}
use Rattle.rate_ledger.proofs.rates.rates_on.Given as goal

abbrev pub invariant-loop-action : goal.invariant-loop-action
invariant-loop-action l = l.out ≡ flat_map (λ a. entries_of l.fluent (snap_of l.task.parts (action_of l.task.parts a).start).rates) (take l.action-index l.actions)
