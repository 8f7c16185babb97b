use Rattle.std.proofs.Common.{◌∙◌, sym}
use Rattle.lp_sparse.proofs.Units.{times_one, times_minus_one}
use Rattle.lp_sparse.proofs.products.product_of.Goals as goal

pub returns-then-eq : goal.returns-then-eq
returns-then-eq g c =
    let value = g.S.Scalar.value in
    times_one g.S.Scalar.limit (value c.args.y) (value c.args.x) (value c.kept.result) ((g.met.S.Scalar.decides c.args.y c.of_int.result).0 (sym c.eq.ensures ∙ c.if-eq.true) ∙ c.of_int.ensures) c.kept.ensures.value c.kept.ensures.fits

pub returns-then-eq-2 : goal.returns-then-eq-2
returns-then-eq-2 g c =
    let value = g.S.Scalar.value in
    times_minus_one g.S.Scalar.limit (value c.args.y) (value c.args.x) (value c.kept-then-eq-2.result) ((g.met.S.Scalar.decides c.args.y c.of_int-2.result).0 (sym c.eq-2.ensures ∙ c.if-eq-2.true) ∙ c.of_int-2.ensures) (c.kept-then-eq-2.ensures.value ∙ c.neg.ensures) c.kept-then-eq-2.ensures.fits
