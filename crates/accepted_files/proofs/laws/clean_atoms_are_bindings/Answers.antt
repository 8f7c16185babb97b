use Rattle.accepted_files.proofs.Files.{clean_atoms-bound}
use Rattle.accepted_files.proofs.laws.clean_atoms_are_bindings.Goals as goal

pub returns : goal.returns
returns c = clean_atoms-bound
