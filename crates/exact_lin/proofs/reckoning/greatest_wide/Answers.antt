use Rattle.std.proofs.Common.{◌∙◌, arith}
use Rattle.exact_lin.proofs.Euclid.{gcd-step, is-gcd}
use Rattle.exact_lin.proofs.reckoning.greatest_wide.Goals as goal

pub loop-y-preserved : goal.loop-y-preserved
loop-y-preserved c = gcd-step _ _ ∙ c.loop-y.invariant

pub returns-then-x-le-LARGEST_64 : goal.returns-then-x-le-LARGEST_64
returns-then-x-le-LARGEST_64 c = c.greatest_narrow.ensures ∙ c.loop-y.invariant

pub returns-then-y-eq0 : goal.returns-then-y-eq0
returns-then-y-eq0 c = is-gcd _ _ _ _ (omega arith) c.loop-y.invariant

pub returns : goal.returns
returns c = c.greatest_narrow-2.ensures ∙ gcd-step _ _ ∙ c.loop-y.invariant
