use Rattle.pddl_names.proofs.Examples as examples
use Rattle.pddl_names.proofs.laws.examples_come_out.Goals as goal

pub returns : goal.returns
returns c = examples.examples_come_out
