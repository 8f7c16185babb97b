use Rattle.accepted_files.proofs.PartSizes.{parts_no_longer}
use Rattle.accepted_files.proofs.laws.accepted_parts_are_no_longer.Goals as goal

pub returns : goal.returns
returns c = parts_no_longer
