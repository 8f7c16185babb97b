use Rattle.exact_lin.proofs.Widths.{numerator-fits, denominator-fits, narrowed-fraction, narrowed-is}
use Rattle.exact_lin.proofs.fractions.Fraction.narrowed.Goals as goal

pub overflow_cast-result : goal.overflow_cast-result
overflow_cast-result c = numerator-fits _ _ c.args.self c.self.invariant c.self.view_is c.requires

pub overflow_cast-result-2 : goal.overflow_cast-result-2
overflow_cast-result-2 c = denominator-fits _ _ c.args.self c.self.invariant c.self.view_is c.requires

pub invariant_of-result : goal.invariant_of-result
invariant_of-result c = narrowed-fraction _ _ c.args.self c.self.invariant c.self.view_is c.requires

pub returns : goal.returns
returns c = narrowed-is _ _ c.args.self c.self.invariant c.self.view_is c.requires
