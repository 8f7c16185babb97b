use Rattle.planner_core.proofs.Steps.{not_read}
use Rattle.planner_core.proofs.validation.task_reply.Goals as goal

pub returns-in-Err : goal.returns-in-Err
returns-in-Err c = not_read c.args.rules.now c.args.task.now.parts c.args.plan.now c.in-Err.fault _ c.in-Err.ensures.plan c.line_refused.ensures
