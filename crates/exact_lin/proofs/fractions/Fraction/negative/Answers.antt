use Rattle.std.proofs.Common.{◌∙◌}
use Rattle.exact_lin.proofs.Numbers.{neg-parts}
use Rattle.exact_lin.proofs.fractions.Fraction.negative.Goals as goal

pub returns : goal.returns
returns c = c.made.ensures ∙ neg-parts _ _ c.args.self c.self.invariant c.self.view_is
