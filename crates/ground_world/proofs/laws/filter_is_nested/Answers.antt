use Rattle.ground_world.proofs.Nested.{filter-nested}
use Rattle.ground_world.proofs.laws.filter_is_nested.Goals as goal

pub returns : goal.returns
returns c = filter-nested
