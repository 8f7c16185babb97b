use Rattle.task_types.proofs.ExampleStates.{states_come_out as come_out}
use Rattle.task_types.proofs.laws.states_come_out.Goals as goal

pub returns : goal.returns
returns c = come_out
