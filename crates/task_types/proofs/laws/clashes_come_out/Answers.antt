use Rattle.task_types.proofs.ExampleClashes.{clashes_come_out as come_out, clashing_plans_come_out}
use Rattle.task_types.proofs.laws.clashes_come_out.Goals as goal

pub returns : goal.returns
returns c = record {
  steps = come_out;
  plans = clashing_plans_come_out;
}
