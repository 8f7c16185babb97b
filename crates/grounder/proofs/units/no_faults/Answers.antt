use Rattle.std.proofs.Common.{refl}
use Rattle.grounder.proofs.units.no_faults.Goals as goal

pub returns : goal.returns
returns c w = record { wide = refl; none = refl }
