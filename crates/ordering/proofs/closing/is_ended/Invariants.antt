use Rattle.std.proofs.Common.{◌≡◌, ◌-◌, length, drop}
use Rattle.std.specs.List.{list_any}
use Rattle.task_types.specs.Plan.{snap_of}
use Rattle.task_types.specs.Sets.{is_in}
use Rattle.ordering.specs.Refusals.{ended}
use Rattle.ordering.proofs.closing.is_ended.Given as goal

abbrev pub invariant-loop-at : goal.invariant-loop-at
invariant-loop-at l = list_any (λ e. is_in l.action (ended (snap_of l.task.parts e))) (drop l.from l.steps) ≡ list_any (λ e. is_in l.action (ended (snap_of l.task.parts e))) (drop l.at l.steps)

abbrev pub decreases-loop-at : goal.decreases-loop-at
decreases-loop-at l = length l.steps - l.at
