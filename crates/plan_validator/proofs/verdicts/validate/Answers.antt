use Rattle.plan_validator.proofs.Costing.{validates-cost, validates-wide}
use Rattle.plan_validator.proofs.verdicts.validate.Goals as goal

pub returns-in-Ok : goal.returns-in-Ok
returns-in-Ok c = validates-cost c.args.task.now.parts c.args.rules.now c.args.plan.now c.in-Ok.cost (rw c.in-Ok-None.field-0-is at c.in-Ok-None.ensures) c.in-Ok.ensures

pub returns-in-Err-cost : goal.returns-in-Err-cost
returns-in-Err-cost c = validates-wide c.args.task.now.parts c.args.rules.now c.args.plan.now c.in-Err-cost.fault (rw c.in-Ok-None.field-0-is at c.in-Ok-None.ensures) c.in-Err-cost.ensures
