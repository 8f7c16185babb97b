use Rattle.task_types.proofs.ByNumber.{states_go_by_number as by_number}
use Rattle.task_types.proofs.laws.states_go_by_number.Goals as goal

pub returns : goal.returns
returns c = by_number
