use Rattle.std.proofs.Common.{refl}
use Rattle.rational.specs.Gcd.{gcd}
use Rattle.rational.specs.Rational.{ratio, whole}
use Rattle.rate_ledger.proofs.tests.metric.Goals as goal

pub returns : goal.returns
unfolding gcd ratio whole
returns c = rw (c.of_int.ensures, c.of_int-2.ensures, c.zero.ensures) refl
