use Rattle.pddl_names.proofs.Firsts.{least_is_first}
use Rattle.pddl_names.proofs.laws.least_offence_is_first.Goals as goal

pub returns : goal.returns
returns c = least_is_first
