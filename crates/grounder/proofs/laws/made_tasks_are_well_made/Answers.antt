use Rattle.grounder.proofs.WellMade.{made_tasks-well_made}
use Rattle.grounder.proofs.laws.made_tasks_are_well_made.Goals as goal

pub returns : goal.returns
returns c = made_tasks-well_made
