use Rattle.task_types.proofs.ByNumber.{moment-first_state}
use Rattle.task_types.proofs.laws.first_states_have_the_first_moments.Goals as goal

pub returns : goal.returns
returns c = moment-first_state
