use Rattle.std.proofs.Common.{refl}
use Rattle.rational.specs.Gcd.{gcd}
use Rattle.rational.specs.Rational.{ratio, whole}
use Rattle.task_types.proofs.tests.tank_parts.Goals as goal

pub returns : goal.returns
unfolding gcd ratio whole
returns c = rw (c.new.ensures, c.in_ok-tank_schemas.ensures {u = tt}, c.new-2.ensures, c.in_ok-one.ensures {u = tt}, c.in_ok-level.ensures {u = tt}, c.in_ok-tank_actions.ensures {u = tt}, c.in_ok-tank_snaps.ensures {u = tt}, c.new-3.ensures, c.in_ok-asks_level.ensures {u = tt}, c.new-4.ensures, c.new-5.ensures, c.by_time.ensures) refl
