use Rattle.std.proofs.Common.{subst, sym}
use Rattle.exact_lin.specs.Reckoning.{narrow_limit, Fits}
use Rattle.exact_lin.proofs.Results.{fits-neg}
use Rattle.exact_lin.proofs.fractions.NarrowScalar.neg.Goals as goal

pub narrowed-requires : goal.narrowed-requires
narrowed-requires c = subst (Fits narrow_limit) (sym c.negative.ensures) (fits-neg narrow_limit c.widen.result c.widen.ensures.fits)
