use Rattle.accepted_files.proofs.Cleaning.{files_clean}
use Rattle.accepted_files.proofs.laws.accepted_files_are_clean.Goals as goal

pub returns : goal.returns
returns c = files_clean
