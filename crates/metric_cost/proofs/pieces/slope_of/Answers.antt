use Rattle.std.proofs.Common.{◌∙◌, ap}
use Rattle.rational.specs.Rational.{◌+ℚ◌}
use Rattle.metric_cost.proofs.PieceValues.{span_positive}
use Rattle.metric_cost.proofs.pieces.slope_of.Goals as goal

pub recip-requires : goal.recip-requires
recip-requires c = span_positive c.args.lower c.args.piece.now.until c.in_ok-span.span c.requires (c.in_ok-span.ensures.1 ∙ ap (λ q. c.args.piece.now.until +ℚ q) c.neg.ensures)
