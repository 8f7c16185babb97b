use Rattle.std.proofs.Common.{refl}
use Rattle.rational.specs.Gcd.{gcd}
use Rattle.rational.specs.Rational.{ratio, whole}
use Rattle.task_types.proofs.tests.tank_snaps.Goals as goal

pub returns : goal.returns
unfolding gcd ratio whole
returns c = rw (c.in_ok-append.ensures {u = tt}, c.in_ok-snaps.ensures {u = tt}, c.in_ok-tank_pair.ensures {u = tt}) refl
