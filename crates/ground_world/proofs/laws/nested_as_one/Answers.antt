use Rattle.ground_world.proofs.NestedChoices.{nested-as_one}
use Rattle.ground_world.proofs.laws.nested_as_one.Goals as goal

pub returns : goal.returns
returns c = nested-as_one
