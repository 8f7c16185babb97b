use Rattle.std.proofs.Common.{refl}
use Rattle.rational.specs.Rational.{whole}
use Rattle.task_types.proofs.tests.by_time.Goals as goal

pub returns : goal.returns
unfolding whole
returns c = rw (c.of_int.ensures, c.of_int-2.ensures, c.zero.ensures) refl
