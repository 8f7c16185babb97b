use Rattle.grounder.proofs.ExampleFacts.{facts_come_out as come_out}
use Rattle.grounder.proofs.examples.facts_come_out.Goals as goal

pub returns : goal.returns
returns c = come_out
