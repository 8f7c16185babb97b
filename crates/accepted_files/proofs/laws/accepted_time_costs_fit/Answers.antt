use Rattle.accepted_files.proofs.Promises.{accepted_costs}
use Rattle.accepted_files.proofs.laws.accepted_time_costs_fit.Goals as goal

pub returns : goal.returns
returns c = accepted_costs
