use Rattle.std.proofs.Common.{◌≡◌, length}
use Rattle.rate_ledger.specs.Ledgers.{Keeps}
use Rattle.rate_ledger.proofs.ledgers.growing.all_taken.Given as goal

abbrev pub invariant-loop-count : goal.invariant-loop-count
invariant-loop-count l = record { keeps : Keeps l.task.parts l.ledger; same : l.ledger.steps ≡ l.steps; taken : length l.ledger.changes ≡ l.count }
