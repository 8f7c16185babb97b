use Rattle.std.proofs.Common.{sym, ap, not}
use Rattle.ground_world.specs.Expressions.{zero_divisors}
use Rattle.grounder.proofs.Flawed.{some-place, no-place}
use Rattle.grounder.proofs.binding_flaws.divides_by_zero.Goals as goal

pub returns-in-Some : goal.returns-in-Some
returns-in-Some c = ap not (sym (some-place (zero_divisors c.args.flaws.now) c.in-Some.field-0 (sym c.in-Some.ensures)))

pub returns-in-None : goal.returns-in-None
returns-in-None c = ap not (sym (no-place (zero_divisors c.args.flaws.now) (sym c.in-None.ensures)))
