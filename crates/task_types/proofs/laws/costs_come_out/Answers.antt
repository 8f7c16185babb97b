use Rattle.task_types.proofs.ExampleCosts.{costs_come_out as come_out}
use Rattle.task_types.proofs.laws.costs_come_out.Goals as goal

pub returns : goal.returns
returns c = come_out
