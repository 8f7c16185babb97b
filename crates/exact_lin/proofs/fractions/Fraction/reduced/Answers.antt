use Rattle.std.proofs.Common.{◌∙◌}
use Rattle.exact_lin.proofs.Numbers.{reduced-made}
use Rattle.exact_lin.proofs.fractions.Fraction.reduced.Goals as goal

pub made-requires : goal.made-requires
made-requires c = (reduced-made c.args.num c.divided.result c.args.den _ _ c.requires.numerator c.requires.positive c.requires.denominator c.unsigned_abs.ensures.value c.greatest-g.ensures.value c.divided.ensures).inside

pub returns : goal.returns
returns c = c.made.ensures ∙ (reduced-made c.args.num c.divided.result c.args.den _ _ c.requires.numerator c.requires.positive c.requires.denominator c.unsigned_abs.ensures.value c.greatest-g.ensures.value c.divided.ensures).is
