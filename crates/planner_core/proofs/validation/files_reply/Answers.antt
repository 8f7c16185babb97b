use Rattle.planner_core.specs.Answers.{GroundRefused}
use Rattle.planner_core.specs.Steps.{Ground, OfTask}
use Rattle.planner_core.proofs.Steps.{made, stopped, not_grounded}
use Rattle.planner_core.proofs.validation.files_reply.Goals as goal

pub returns-in-Ok : goal.returns-in-Ok
returns-in-Ok c =
    made (Ground c.args.domain.now c.args.problem.now) GroundRefused (OfTask c.args.rules.now c.args.plan.now) c.in-Ok.task.parts _ c.in-Ok.ensures.answers c.task_reply.ensures

pub returns-in-Err : goal.returns-in-Err
returns-in-Err c =
    stopped (Ground c.args.domain.now c.args.problem.now) GroundRefused (OfTask c.args.rules.now c.args.plan.now) c.in-Err.fault _
    (not_grounded c.args.domain.now c.args.problem.now c.in-Err.fault c.in-Err.ensures.answers) c.ground_refused.ensures
