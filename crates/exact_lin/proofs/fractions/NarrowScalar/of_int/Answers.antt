use Rattle.std.proofs.Common.{subst, sym, arith, ◌∙◌, ap}
use mir.Facts.{to_z-of_z}
use Rattle.rational.specs.Rational.{whole}
use Rattle.exact_lin.specs.Reckoning.{narrow_limit, Fits}
use Rattle.exact_lin.proofs.Numbers.{small-within}
use Rattle.exact_lin.proofs.Results.{fits-whole}
use Rattle.exact_lin.proofs.fractions.NarrowScalar.of_int.Goals as goal

pub narrowed-requires : goal.narrowed-requires
narrowed-requires c = subst (Fits narrow_limit) (sym (c.of_whole.ensures ∙ ap whole (to_z-of_z c.ranges.n))) (fits-whole narrow_limit c.args.n (omega arith) (small-within narrow_limit (omega arith) c.args.n c.ranges.n))
