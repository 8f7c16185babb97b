use Rattle.grounder.proofs.ExampleLimits.{limits_come_out as come_out}
use Rattle.grounder.proofs.examples.limits_come_out.Goals as goal

pub returns : goal.returns
returns c = come_out
