use Rattle.task_types.proofs.Values.{reckonings_end}
use Rattle.task_types.proofs.laws.reckonings_end_at_the_value.Goals as goal

pub returns : goal.returns
returns c = reckonings_end
