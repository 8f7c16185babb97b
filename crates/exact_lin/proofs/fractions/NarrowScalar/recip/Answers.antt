use Rattle.std.proofs.Common.{subst, sym, ◌∙◌}
use Rattle.exact_lin.specs.Reckoning.{narrow_limit, Fits}
use Rattle.exact_lin.proofs.Results.{fits-inverse}
use Rattle.exact_lin.proofs.fractions.NarrowScalar.recip.Goals as goal

pub narrowed-requires : goal.narrowed-requires
narrowed-requires c = subst (Fits narrow_limit) (sym c.reciprocal.ensures) (fits-inverse narrow_limit c.widen.result (λ e. c.requires (sym c.widen.ensures.value ∙ e)) c.widen.ensures.fits)
