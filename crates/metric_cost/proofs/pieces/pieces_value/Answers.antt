use Rattle.std.proofs.Common.{◌≡◌, Option, ◌∙◌, ap, sym, subst}
use Rattle.rational.specs.Rational.{ℚ, zeroℚ}
use Rattle.task_types.specs.Tests.{◌≤?◌}
use Rattle.task_types.specs.Cost.{pieces_value}
use Rattle.task_types.specs.Reckoned.{pieces_reckoned, at_some}
use Rattle.timed_meaning.specs.Answers.{Defined}
use Rattle.metric_cost.specs.Answers.{Amounts}
use Rattle.metric_cost.proofs.PieceValues.{at-low, at-high}
use Rattle.metric_cost.proofs.pieces.pieces_value.Goals as goal

pub returns-then-is_at_most : goal.returns-then-is_at_most
returns-then-is_at_most c = subst (λ (o : Option ℚ). Defined (at_some (pieces_reckoned zeroℚ c.args.pieces.now) o) × (c.first_from.result ≡ pieces_value c.args.pieces.now o)) (sym c.in-Some.is)
    (at-low c.args.pieces.now c.in-Some.moment c.first_from.result c.is_at_most.result (c.is_at_most.ensures ∙ ap (λ q. c.in-Some.moment ≤? q) c.of_int.ensures) c.if-is_at_most.true c.first_from.ensures)

pub returns-else-is_at_most : goal.returns-else-is_at_most
returns-else-is_at_most c = subst (λ (o : Option ℚ). Amounts c.value_past_0.result (at_some (pieces_reckoned zeroℚ c.args.pieces.now) o) (λ q. q ≡ pieces_value c.args.pieces.now o)) (sym c.in-Some.is)
    (at-high c.args.pieces.now c.in-Some.moment c.value_past_0.result c.is_at_most.result (c.is_at_most.ensures ∙ ap (λ q. c.in-Some.moment ≤? q) c.of_int.ensures) c.if-is_at_most.false c.value_past_0.ensures)
