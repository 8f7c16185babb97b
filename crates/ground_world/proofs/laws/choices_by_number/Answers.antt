use Rattle.ground_world.proofs.Choices.{choices-by_number}
use Rattle.ground_world.proofs.laws.choices_by_number.Goals as goal

pub returns : goal.returns
returns c = choices-by_number
