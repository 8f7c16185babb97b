use Rattle.rate_ledger.specs.Values.{value_sum}
use Rattle.rate_ledger.proofs.Putting.{ArePut}
use Rattle.rate_ledger.proofs.list_ledgers.ListLedger.put.Given as goal

abbrev pub invariant-loop-term : goal.invariant-loop-term
invariant-loop-term l = ArePut (value_sum l.task.parts l.self.steps l.when) l.form.constant l.term-items l.term-index l.sum
