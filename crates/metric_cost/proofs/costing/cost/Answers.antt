use Rattle.metric_cost.proofs.Going.{cost-stopped, cost-given, cost-wide}
use Rattle.metric_cost.proofs.costing.cost.Goals as goal

pub returns-in-Err-follow : goal.returns-in-Err-follow
returns-in-Err-follow c = cost-stopped c.args.task.now.parts c.args.plan.now c.in-Err-follow.fault c.in-Err-follow.ensures

pub returns-in-Ok-cost : goal.returns-in-Ok-cost
returns-in-Ok-cost c = cost-given c.args.task.now.parts c.args.plan.now c.in-Ok-cost.cost c.in-Ok-follow.ensures.0 c.in-Ok-cost.ensures

pub returns : goal.returns
returns c = cost-wide c.args.task.now.parts c.args.plan.now c.in-Ok.happenings c.in-Ok.ensures.0 c.in-Ok-follow.ensures.0 c.in-Err-cost.ensures
