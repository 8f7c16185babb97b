use Rattle.std.proofs.Common.{◌∙◌}
use Rattle.exact_lin.proofs.Numbers.{reciprocal-fraction, reciprocal-is, minus_reciprocal-fraction, minus_reciprocal-is, below_zero, not_below_zero}
use Rattle.exact_lin.proofs.fractions.Fraction.reciprocal.Goals as goal

pub made-requires : goal.made-requires
made-requires c = minus_reciprocal-fraction _ _ _ c.args.self c.self.invariant c.self.view_is c.requires c.unsigned_abs-size.ensures.value

pub made-requires-else-self-lt0 : goal.made-requires-else-self-lt0
made-requires-else-self-lt0 c = reciprocal-fraction _ _ _ c.args.self c.self.invariant c.self.view_is c.requires c.unsigned_abs-size.ensures.value

pub returns-then-self-lt0 : goal.returns-then-self-lt0
returns-then-self-lt0 c = c.made.ensures ∙ minus_reciprocal-is _ _ _ c.args.self c.self.invariant c.self.view_is c.requires c.unsigned_abs-size.ensures.value
    (below_zero _ _ c.args.self c.self.invariant c.self.view_is c.if-self-lt0.true)

pub returns-else-self-lt0 : goal.returns-else-self-lt0
returns-else-self-lt0 c = c.made-else-self-lt0.ensures ∙ reciprocal-is _ _ _ c.args.self c.self.invariant c.self.view_is c.requires c.unsigned_abs-size.ensures.value
    (not_below_zero _ _ c.args.self c.self.invariant c.self.view_is c.if-self-lt0.false)
