use Rattle.planner_core.proofs.Steps.{decided, wide}
use Rattle.planner_core.proofs.validation.plan_reply.Goals as goal

pub returns-in-Ok : goal.returns-in-Ok
returns-in-Ok c = decided c.args.rules.now c.args.task.now.parts c.args.plan.now c.in-Ok.verdict _ c.in-Ok.ensures c.decided.ensures

pub returns-in-Err-Wide : goal.returns-in-Err-Wide
returns-in-Err-Wide c = wide c.args.rules.now c.args.task.now.parts c.args.plan.now c.in-Err-Wide.field-0 c.in-Err-Wide.happening _ c.in-Err-Wide.ensures c.in-Err-Wide.field-0-is c.happening_wide.ensures
