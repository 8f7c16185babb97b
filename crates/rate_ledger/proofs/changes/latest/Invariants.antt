use Rattle.std.proofs.Common.{◌≡◌, ◌≤◌, length}
use Rattle.rate_ledger.specs.Ledgers.{latest}
use Rattle.rate_ledger.proofs.changes.latest.Given as goal

abbrev pub decreases-loop-left : goal.decreases-loop-left
decreases-loop-left l = l.left

abbrev pub invariant-loop-left : goal.invariant-loop-left
invariant-loop-left l = (l.left ≤ length l.rows) × (latest l.fluent l.rows l.count ≡ latest l.fluent l.rows l.left)
