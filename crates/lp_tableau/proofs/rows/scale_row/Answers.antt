use Rattle.std.proofs.Common.{arith, subst}
use Rattle.exact_lin.specs.Reckoning.{CanMultiply}
use Rattle.lp_tableau.proofs.RowPlaces.{value-read, Scaled-next, Scaled-all}
use Rattle.lp_tableau.proofs.rows.scale_row.Goals as goal

pub returns-in-Err-clause-cases : goal.returns-in-Err-clause-cases
returns-in-Err-clause-cases g c = λ f. (c.in-Err.ensures {u = tt}) (subst (λ z. CanMultiply g.S.Scalar.limit (g.S.Scalar.value c.args.y) z) (value-read g.S.Scalar.value g.S.Scalar.limit _ c.loop-k.k c.index-row-k.result (omega arith) c.index-row-k.is) (f c.loop-k.k (omega arith)))

pub loop-k-preserved : goal.loop-k-preserved
loop-k-preserved g c = Scaled-next g.S.Scalar.value g.S.Scalar.limit _ _ c.loop-k.out c.loop-k.k c.index-row-k.result c.in-Ok.product (omega arith) c.index-row-k.is (c.in-Ok.ensures {u = tt}) c.loop-k.invariant

pub returns-clause-cases : goal.returns-clause-cases
returns-clause-cases g c = Scaled-all g.S.Scalar.value g.S.Scalar.limit _ _ c.loop-k.out c.loop-k.k (omega arith) c.loop-k.invariant
