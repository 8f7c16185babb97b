use Rattle.std.proofs.Common.{◌≡◌, ◌≤◌, ◌-◌, length, drop}
use Rattle.rate_ledger.specs.Entries.{first_end}
use Rattle.rate_ledger.proofs.ends.first_end.Given as goal

abbrev pub decreases-loop-at : goal.decreases-loop-at
decreases-loop-at l = length l.steps - l.at

abbrev pub invariant-loop-at : goal.invariant-loop-at
invariant-loop-at l = (l.at ≤ length l.steps) × (first_end l.task.parts l.action l.from (drop l.from l.steps) ≡ first_end l.task.parts l.action l.at (drop l.at l.steps))
