use Rattle.exact_lin.proofs.Nothing.{adds_nothing_left, adds_nothing_right}
use Rattle.exact_lin.proofs.arithmetic.add_product.Goals as goal
use Rattle.exact_lin.proofs.arithmetic.add_product.Goals.{then-is_zero-via-then-is_zero, then-is_zero-via-else-is_zero+then-is_zero-2}

pub returns-then-is_zero : goal.returns-then-is_zero
returns-then-is_zero g c =
    let value = g.S.Scalar.value in
    elim c.then-is_zero.branch [
      | then-is_zero-via-then-is_zero w ↦ adds_nothing_left g.S.Scalar.limit (value c.args.sum) (value c.args.y) (value c.args.a) (value c.kept.result) c.kept.ensures.fits w.if-is_zero.ensures.value c.kept.ensures.value
      | then-is_zero-via-else-is_zero+then-is_zero-2 w ↦ adds_nothing_right g.S.Scalar.limit (value c.args.sum) (value c.args.y) (value c.args.a) (value c.kept.result) c.kept.ensures.fits w.if-is_zero-2.ensures.value c.kept.ensures.value
    ]
