use Rattle.grounder.proofs.UnitSteps.{least-joined}
use Rattle.grounder.proofs.units.both.Goals as goal

pub returns : goal.returns
returns c w us vs a b = least-joined w us vs c.args.one c.args.other _ c.lower.ensures c.lower-2.ensures a b
