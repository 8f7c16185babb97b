use Rattle.std.proofs.Common.{refl}
use Rattle.rational.specs.Gcd.{gcd}
use Rattle.rational.specs.Rational.{ratio, whole}
use Rattle.task_types.proofs.tests.gate_actions.Goals as goal

pub returns : goal.returns
unfolding gcd ratio whole
returns c = rw (c.in_ok-one.ensures {u = tt}, c.durative-pass.ensures, c.in_ok-name.ensures {u = tt}, c.in_ok-bounds.ensures {u = tt}, c.in_ok-open.ensures {u = tt}, c.of.ensures, c.of-2.ensures, c.of-3.ensures) refl
