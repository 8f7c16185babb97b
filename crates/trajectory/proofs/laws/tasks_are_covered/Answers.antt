use Rattle.trajectory.proofs.Covering as covering
use Rattle.trajectory.proofs.laws.tasks_are_covered.Goals as goal

pub returns : goal.returns
returns c = covering.tasks_are_covered
