use Rattle.task_types.proofs.SetApart.{clash-apart}
use Rattle.task_types.proofs.laws.clashes_are_set_apart.Goals as goal

pub returns : goal.returns
returns c = clash-apart
