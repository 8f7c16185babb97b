use Rattle.std.proofs.Common.{refl}
use Rattle.rational.specs.Gcd.{gcd}
use Rattle.rational.specs.Rational.{ratio, whole}
use Rattle.task_types.proofs.tests.gate_parts.Goals as goal

pub returns : goal.returns
unfolding gcd ratio whole
returns c = rw (c.new.ensures, c.in_ok-one.ensures {u = tt}, c.in_ok-schema.ensures {u = tt}, c.in_ok-gate_facts.ensures {u = tt}, c.new-2.ensures, c.in_ok-gate_actions.ensures {u = tt}, c.in_ok-gate_snaps.ensures {u = tt}, c.in_ok-gate_times.ensures {u = tt}, c.in_ok-asks.ensures {u = tt}, c.of.ensures, c.new-3.ensures, c.new-4.ensures, c.by_time.ensures) refl
