use Rattle.std.proofs.Common.{List, ◌∙◌, ap, sym, subst}
use Rattle.std.specs.Prelude.{IsTrue}
use Rattle.rational.specs.Rational.{zeroℚ}
use Rattle.task_types.specs.declared.costs.Piece.{Piece}
use Rattle.task_types.specs.Cost.{piece_at}
use Rattle.task_types.specs.WellMade.{pieces_rise}
use Rattle.metric_cost.proofs.PieceValues.{from-first}
use Rattle.metric_cost.proofs.pieces.first_from.Goals as goal

pub returns-in-Some : goal.returns-in-Some
returns-in-Some c = from-first c.in-Some.first.now c.in-Some.field-0-1.now (subst (λ (ps : List Piece). IsTrue (pieces_rise zeroℚ zeroℚ ps)) c.in-Some.ensures.cases.0 c.requires)
    ∙ ap (λ (ps : List Piece). piece_at zeroℚ zeroℚ ps zeroℚ) (sym c.in-Some.ensures.cases.0)
