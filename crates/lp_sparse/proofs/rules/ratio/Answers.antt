use Rattle.std.proofs.Common.{ap, ◌∙◌}
use Rattle.rational.specs.Rational.{neg_ℚ}
use Rattle.lp_tableau.proofs.Ratios.{neg-not_zero}
use Rattle.lp_sparse.proofs.rules.ratio.Goals as goal

pub recip-requires : goal.recip-requires
recip-requires g c = neg-not_zero _ _ c.requires.falling (c.neg.ensures ∙ ap neg_ℚ c.entry.ensures)
