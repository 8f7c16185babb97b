use Rattle.exact_lin.proofs.Parts.{back-num}
use Rattle.exact_lin.proofs.fractions.Fraction.num.Goals as goal

pub returns-clause-value : goal.returns-clause-value
returns-clause-value c = back-num _ _ c.args.self c.self.invariant c.self.view_is
