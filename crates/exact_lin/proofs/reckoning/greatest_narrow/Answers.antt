use Rattle.std.proofs.Common.{◌∙◌, arith}
use Rattle.exact_lin.proofs.Euclid.{gcd-step, is-gcd}
use Rattle.exact_lin.proofs.reckoning.greatest_narrow.Goals as goal

pub loop-y-preserved : goal.loop-y-preserved
loop-y-preserved c = gcd-step _ _ ∙ c.loop-y.invariant

pub returns : goal.returns
returns c = is-gcd _ _ _ _ (omega arith) c.loop-y.invariant
