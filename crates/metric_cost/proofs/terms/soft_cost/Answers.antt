use Rattle.std.proofs.Common.{◌≡◌, Option, List, ◌∙◌, ap, sym, subst}
use Rattle.rational.specs.Rational.{ℚ, zeroℚ}
use Rattle.task_types.specs.declared.costs.Soft.{Soft}
use Rattle.task_types.specs.declared.costs.Piece.{Piece}
use Rattle.task_types.specs.Cost.{soft_cost, late_value, pieces_value}
use Rattle.task_types.specs.Reckoned.{soft_reckoned, late_reckoned, pieces_reckoned, at_some}
use Rattle.task_types.specs.Trace.{first_moment}
use Rattle.timed_meaning.specs.Answers.{told}
use Rattle.metric_cost.specs.Answers.{Amounts}
use Rattle.metric_cost.specs.Watching.{Watches}
use Rattle.metric_cost.proofs.Adding.{weighed-told}
use Rattle.metric_cost.proofs.terms.soft_cost.Goals as goal

pub returns-in-Late : goal.returns-in-Late
returns-in-Late c states h =
    let seen = subst (λ (s : Soft). Watches s c.args.watch.now states) c.in-Late.is h in
    let first = c.first.ensures c.in-Late.field-0 states seen in
    subst (λ (s : Soft). Amounts c.weighed.result (soft_reckoned s states (told c.args.facts.now c.args.fluents.now)) (λ q. q ≡ soft_cost s states (told c.args.facts.now c.args.fluents.now))) (sym c.in-Late.is)
    (weighed-told c.in-Late.weight (late_value c.in-Late.cost (first_moment c.in-Late.field-0 states)) (late_reckoned c.in-Late.cost (first_moment c.in-Late.field-0 states)) c.late_value.result c.weighed.result
    (subst (λ (o : Option ℚ). Amounts c.late_value.result (late_reckoned c.in-Late.cost o) (λ q. q ≡ late_value c.in-Late.cost o)) first c.late_value.ensures) c.weighed.ensures)

pub returns-in-Pieces : goal.returns-in-Pieces
returns-in-Pieces c states h =
    let seen = subst (λ (s : Soft). Watches s c.args.watch.now states) c.in-Pieces.is h in
    let first = c.first-in-Pieces.ensures c.in-Pieces.field-0 states seen in
    subst (λ (s : Soft). Amounts c.weighed-in-Pieces.result (soft_reckoned s states (told c.args.facts.now c.args.fluents.now)) (λ q. q ≡ soft_cost s states (told c.args.facts.now c.args.fluents.now))) (sym c.in-Pieces.is)
    (weighed-told c.in-Pieces.weight (pieces_value c.in-Pieces.pieces (first_moment c.in-Pieces.field-0 states)) (at_some (pieces_reckoned zeroℚ c.in-Pieces.pieces) (first_moment c.in-Pieces.field-0 states)) c.pieces_value.result c.weighed-in-Pieces.result
    (subst (λ (o : Option ℚ). Amounts c.pieces_value.result (at_some (pieces_reckoned zeroℚ c.in-Pieces.pieces) o) (λ q. q ≡ pieces_value c.in-Pieces.pieces o)) first
    (subst (λ (ps : List Piece). Amounts c.pieces_value.result (at_some (pieces_reckoned zeroℚ ps) c.first-in-Pieces.result) (λ q. q ≡ pieces_value ps c.first-in-Pieces.result)) c.as_slice-in-Pieces.ensures c.pieces_value.ensures)) c.weighed-in-Pieces.ensures)
