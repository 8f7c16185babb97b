use Rattle.exact_lin.proofs.Numbers.{negative_num, zero_num, positive_num_in, below_zero, equals_zero, above_zero}
use Rattle.exact_lin.proofs.fractions.Fraction.sign_of.Goals as goal

pub returns-then-self-lt0-clause-sign : goal.returns-then-self-lt0-clause-sign
returns-then-self-lt0-clause-sign c = negative_num c.args.self (below_zero _ _ c.args.self c.self.invariant c.self.view_is c.if-self-lt0.true)

pub returns-then-self-eq0-clause-sign : goal.returns-then-self-eq0-clause-sign
returns-then-self-eq0-clause-sign c = zero_num c.args.self (equals_zero _ _ c.args.self c.self.invariant c.self.view_is c.if-self-eq0.true)

pub returns-else-self-eq0-clause-sign : goal.returns-else-self-eq0-clause-sign
returns-else-self-eq0-clause-sign c = positive_num_in c.args.self (above_zero _ _ c.args.self c.self.invariant c.self.view_is c.if-self-lt0.false c.if-self-eq0.false)
