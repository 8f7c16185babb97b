use Rattle.task_types.proofs.Formed.{plan_of-formed}
use Rattle.task_types.proofs.laws.timed_plans_are_formed.Goals as goal

pub returns : goal.returns
returns c = plan_of-formed
