use Rattle.std.proofs.Common.{◌≡◌, subst, sym}
use Rattle.std.specs.Ordering.{MatchOrdering}
use Rattle.std.specs.declared.cmp.Ordering.{Ordering}
use Rattle.rational.specs.Rational.{◌<ℚ◌}
use Rattle.rational.proofs.Comparisons.{cmp_ranks}
use Rattle.exact_lin.proofs.Parts.{wide, cmp-made}
use Rattle.exact_lin.proofs.fractions.Fraction.order.Goals as goal

pub returns-clause-value : goal.returns-clause-value
returns-clause-value c = cmp-made wide _ _ _ _ c.args.self c.args.other c.self.invariant c.self.view_is c.other.invariant c.other.view_is c.order_of.result c.order_of.ensures

pub returns-clause-order : goal.returns-clause-order
returns-clause-order c = subst (λ (o : Ordering). MatchOrdering o (c.args.self <ℚ c.args.other) (c.args.self ≡ c.args.other) (c.args.other <ℚ c.args.self)) (sym (returns-clause-value c)) (cmp_ranks c.args.self c.args.other)
