use Rattle.rate_ledger.specs.Sums.{CanMake}
use Rattle.rate_ledger.specs.Entries.{amount_sum, value_before}
use Rattle.rate_ledger.specs.Picking.{amount_of}
use Rattle.rate_ledger.proofs.Making.{AreMade}
use Rattle.rate_ledger.proofs.nexts.amounts.Given as goal

abbrev pub invariant-loop-change : goal.invariant-loop-change
invariant-loop-change l = AreMade (λ e. CanMake (amount_sum l.task.parts l.ledger.steps l.step (value_before l.task.parts l.ledger.steps l.step) e.1)) (amount_of l.task.parts l.ledger.steps l.step) l.changes l.change-index l.out
