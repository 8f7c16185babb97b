use Rattle.std.proofs.Common.{refl}
use Rattle.rational.specs.Gcd.{gcd}
use Rattle.rational.specs.Rational.{ratio, whole}
use Rattle.task_types.proofs.tests.tank_actions.Goals as goal

pub returns : goal.returns
unfolding gcd ratio whole
returns c = rw (c.in_ok-both.ensures {u = tt}, c.in_ok-fill.ensures {u = tt}, c.in_ok-leak.ensures {u = tt}, c.in_ok-level_fits.ensures {u = tt}, c.in_ok-text.ensures {u = tt}, c.in_ok-text-2.ensures {u = tt}, c.always_true.ensures) refl
