use Rattle.task_types.proofs.Sayings.{constraints_along}
use Rattle.task_types.proofs.laws.constraints_along_the_trace.Goals as goal

pub returns : goal.returns
returns c = constraints_along
