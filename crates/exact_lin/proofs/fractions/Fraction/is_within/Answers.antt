use Rattle.std.proofs.Common.{arith}
use Rattle.exact_lin.proofs.Widths.{fits-parts, numerator-small, denominator-small, leb-le}
use Rattle.exact_lin.proofs.fractions.Fraction.is_within.Goals as goal

pub returns-then-unsigned_abs-limit : goal.returns-then-unsigned_abs-limit
returns-then-unsigned_abs-limit c = (
  λ t. fits-parts _ _ c.args.self c.self.invariant c.self.view_is c.args.limit (omega (arith, c.unsigned_abs.ensures.value)) ((leb-le _ _).0 t),
  λ f. (leb-le _ _).1 (denominator-small _ _ c.args.self c.self.invariant c.self.view_is c.args.limit f),
)

pub returns-else-unsigned_abs-limit : goal.returns-else-unsigned_abs-limit
returns-else-unsigned_abs-limit c = (
  λ t. absurd (omega (arith, c.if-unsigned_abs-limit.false, (leb-le _ _).0 t)),
  λ f. absurd (omega (arith, c.if-unsigned_abs-limit.false, c.unsigned_abs.ensures.value, numerator-small _ _ c.args.self c.self.invariant c.self.view_is c.args.limit f)),
)
