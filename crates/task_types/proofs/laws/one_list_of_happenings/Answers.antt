use Rattle.task_types.proofs.Happenings.{one_list}
use Rattle.task_types.proofs.laws.one_list_of_happenings.Goals as goal

pub returns : goal.returns
returns c = one_list
