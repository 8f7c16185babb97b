use Rattle.rational.proofs.Rows.{farkas, weak_duality}
use Rattle.rational.proofs.row_laws.multipliers_prove.Goals as goal

pub returns-clause-empty : goal.returns-clause-empty
returns-clause-empty _ = farkas

pub returns-clause-bound : goal.returns-clause-bound
returns-clause-bound _ = weak_duality
