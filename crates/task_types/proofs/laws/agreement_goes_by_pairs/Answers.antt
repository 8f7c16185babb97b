use Rattle.task_types.proofs.Pairs.{agree-pairs}
use Rattle.task_types.proofs.laws.agreement_goes_by_pairs.Goals as goal

pub returns : goal.returns
returns c = agree-pairs
