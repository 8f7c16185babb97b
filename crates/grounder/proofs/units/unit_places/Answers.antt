use Rattle.std.proofs.Common.{ℕ, ap, ◌∙◌, Option, []}
use Rattle.ground_world.specs.World.{either}
use Rattle.ground_world.specs.Expressions.{wide_places, zero_divisors}
use Rattle.grounder.specs.Answer.{least}
use Rattle.grounder.proofs.units.unit_places.Goals as goal

pub returns-in-Some-clause-wide : goal.returns-in-Some-clause-wide
returns-in-Some-clause-wide c = ap (λ (o : Option ℕ). least (either (wide_places c.args.flaws.now) (λ p. []) o)) c.in-Some.ensures

pub returns-in-Some-clause-none : goal.returns-in-Some-clause-none
returns-in-Some-clause-none c =
    c.in-Some.ensures ∙ ap (λ (o : Option ℕ). least (either (zero_divisors c.args.flaws.now) (λ p. c.args.lacking.now) o)) c.in-Some.ensures

pub returns-in-None-clause-wide : goal.returns-in-None-clause-wide
returns-in-None-clause-wide c = c.least_wide.ensures ∙ ap (λ (o : Option ℕ). least (either (wide_places c.args.flaws.now) (λ p. []) o)) c.in-None.ensures

pub returns-in-None-clause-none : goal.returns-in-None-clause-none
returns-in-None-clause-none c =
    c.least_zero_divisor.ensures ∙ ap (λ (o : Option ℕ). least (either (zero_divisors c.args.flaws.now) (λ p. c.args.lacking.now) o)) c.in-None.ensures
