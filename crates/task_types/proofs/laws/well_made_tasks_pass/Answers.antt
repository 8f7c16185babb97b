use Rattle.task_types.proofs.ExampleTasks.{well_made, limits_reached}
use Rattle.task_types.proofs.laws.well_made_tasks_pass.Goals as goal

pub returns : goal.returns
returns c = record {
  well_made = well_made;
  limits = limits_reached;
}
