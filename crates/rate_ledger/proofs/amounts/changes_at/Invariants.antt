use Rattle.rate_ledger.proofs.Changing.{AreChanged}
use Rattle.rate_ledger.proofs.amounts.changes_at.Given as goal

abbrev pub invariant-loop-number : goal.invariant-loop-number
invariant-loop-number l = AreChanged l.task.parts l.ledger.steps l.next.step l.number l.out
