use Rattle.std.proofs.Common.{ap, ◌∙◌, pos}
use Rattle.exact_lin.proofs.Parts.{den-is, back-unsigned}
use Rattle.exact_lin.proofs.fractions.Fraction.den.Goals as goal

pub returns-clause-value : goal.returns-clause-value
returns-clause-value c = back-unsigned _ c.self.invariant.denominator ∙ ap pos (den-is _ _ c.args.self c.self.invariant c.self.view_is)
