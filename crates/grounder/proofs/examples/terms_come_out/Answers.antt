use Rattle.grounder.proofs.ExampleTerms.{terms_come_out as come_out}
use Rattle.grounder.proofs.examples.terms_come_out.Goals as goal

pub returns : goal.returns
returns c = come_out
