use Rattle.std.proofs.Common.{refl}
use Rattle.rational.specs.Gcd.{gcd}
use Rattle.rational.specs.Rational.{ratio, whole}
use Rattle.task_types.proofs.tests.level.Goals as goal

pub returns : goal.returns
unfolding gcd ratio whole
returns c = rw (c.in_ok-from_slice.ensures {u = tt}, c.new.ensures, c.of_int.ensures) refl
