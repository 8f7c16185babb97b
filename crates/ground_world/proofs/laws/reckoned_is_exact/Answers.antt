use Rattle.ground_world.proofs.Exactness.{reckoned-exact}
use Rattle.ground_world.proofs.laws.reckoned_is_exact.Goals as goal

pub returns : goal.returns
returns c = reckoned-exact
