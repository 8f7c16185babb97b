use Rattle.rate_ledger.specs.Sums.{CanMake}
use Rattle.rate_ledger.specs.Entries.{amount_sum, value_before}
use Rattle.rate_ledger.specs.Picking.{amount_of, CanMakeAmounts}
use Rattle.rate_ledger.proofs.Failing.{hands_on}
use Rattle.rate_ledger.proofs.Making.{element_needed}
use Rattle.rate_ledger.proofs.nexts.amounts.Goals as goal

pub returns-in_err-form : goal.returns-in_err-form
returns-in_err-form c =
    let task = c.args.task.now.parts in
    let steps = c.args.ledger.now.steps in
    let k = c.args.step in
    hands_on (CanMake (amount_sum task steps k (value_before task steps k) c.change-item.result.1)) (CanMakeAmounts task steps k c.args.changes.now) _ c.from_residual.result _ c.from_residual.ensures
    (element_needed (λ e. CanMake (amount_sum task steps k (value_before task steps k) e.1)) (amount_of task steps k) c.args.changes.now c.loop-change.change-index c.change-item.result c.loop-change-test.true c.change-item.is)
    c.in_err-form.ensures
