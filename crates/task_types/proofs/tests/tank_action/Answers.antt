use Rattle.std.proofs.Common.{refl}
use Rattle.rational.specs.Gcd.{gcd}
use Rattle.rational.specs.Rational.{ratio, whole}
use Rattle.task_types.proofs.tests.tank_action.Goals as goal

pub returns : goal.returns
unfolding gcd ratio whole
returns c = rw (c.durative.ensures, c.of.ensures, c.of-2.ensures, c.in_ok-bounds.ensures {u = tt}) refl
