use Rattle.rational.specs.Gcd.{gcd}
use Rattle.rational.specs.Rational.{ratio, whole}
use Rattle.task_types.proofs.tests.gate_times.Goals as goal

pub returns : goal.returns
unfolding gcd ratio whole
returns c = rw (c.of_int.ensures, c.of_int-2.ensures, c.of.ensures, c.of-2.ensures) at c.both.ensures
