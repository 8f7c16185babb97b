use Rattle.metric_cost.proofs.PieceValues.{span_positive}
use Rattle.std.proofs.Common.{◌∙◌, ap}
use Rattle.rational.specs.Rational.{◌+ℚ◌}
use Rattle.metric_cost.proofs.late.rising.Goals as goal

pub recip-requires : goal.recip-requires
recip-requires c = span_positive c.args.cost.now.soft c.args.cost.now.hard c.in_ok-span.span c.requires.span (c.in_ok-span.ensures.1 ∙ ap (λ q. c.args.cost.now.hard +ℚ q) c.neg-2.ensures)
