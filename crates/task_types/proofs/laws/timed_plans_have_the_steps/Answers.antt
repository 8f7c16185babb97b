use Rattle.task_types.proofs.StepCounts.{step_count-plan_of}
use Rattle.task_types.proofs.laws.timed_plans_have_the_steps.Goals as goal

pub returns : goal.returns
returns c = step_count-plan_of
