use Rattle.std.proofs.Common.{◌∙◌, [], arith}
use Rattle.std.proofs.lemmas.List.{length-set}
use Rattle.rational.specs.Rational.{zeroℚ}
use Rattle.lp_tableau.proofs.Writing.{Written-next}
use Rattle.lp_sparse.proofs.results.clear.Goals as goal

pub loop-k-preserved : goal.loop-k-preserved
loop-k-preserved g c = (
  length-set c.loop-k.out c.loop-k.k c.of_int.result ∙ c.loop-k.invariant.0,
  Written-next g.S.Scalar.value zeroℚ (λ _. Unit {0}) [] c.loop-k.out c.loop-k.k c.of_int.result (omega (arith, c.loop-k.invariant.0)) tt c.of_int.ensures c.loop-k.invariant.1,
)
