use Rattle.grounder.proofs.ExampleValues.{values_come_out as come_out}
use Rattle.grounder.proofs.examples.values_come_out.Goals as goal

pub returns : goal.returns
returns c = come_out
