use Rattle.task_types.proofs.ExamplePlans.{plans_are_valid, plans_are_refused}
use Rattle.task_types.proofs.laws.plans_come_out.Goals as goal

pub returns : goal.returns
returns c = record {
  valid = plans_are_valid;
  refused = plans_are_refused;
}
