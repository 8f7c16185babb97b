use Rattle.std.proofs.Common.{arith}
use Rattle.rational.specs.Divisors.{gcd_pos}
use Rattle.exact_lin.proofs.Euclid.{gcd-at_most}
use Rattle.exact_lin.proofs.narrow_reckoning.greatest.Goals as goal

pub returns-clause-some : goal.returns-clause-some
returns-clause-some c = omega (arith, c.greatest_narrow.ensures, gcd_pos c.args.a c.args.b c.requires)

pub returns-clause-fits : goal.returns-clause-fits
returns-clause-fits c = omega (arith, c.greatest_narrow.ensures, gcd-at_most c.args.a c.args.b c.requires)
