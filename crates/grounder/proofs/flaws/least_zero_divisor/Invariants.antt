use Rattle.std.proofs.Common.{◌≡◌, take}
use Rattle.ground_world.specs.Expressions.{zero_divisors}
use Rattle.grounder.specs.Answer.{least}
use Rattle.grounder.proofs.flaws.least_zero_divisor.Given as goal

abbrev pub invariant-loop-flaw : goal.invariant-loop-flaw
invariant-loop-flaw l = l.found ≡ least (zero_divisors (take l.flaw-index l.flaws))
