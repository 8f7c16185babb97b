use Rattle.basics.proofs.Duties.{met_or_first_unmet}
use Rattle.basics.proofs.duty_laws.all_met_or_one_unmet.Goals as goal

pub returns : goal.returns
returns _ _ = met_or_first_unmet _
