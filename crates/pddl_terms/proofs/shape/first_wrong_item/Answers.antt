use Rattle.std.proofs.Common.{sym, ap, ◌∙◌}
use Rattle.pddl_terms.specs.Lines.{stands}
use Rattle.pddl_terms.proofs.Shapes.{item-ends, item-stands, item-stops, item-none, item-answer}
use Rattle.pddl_terms.proofs.shape.first_wrong_item.Goals as goal

pub returns-in-End : goal.returns-in-End
returns-in-End c = item-ends c.args.line _ _ c.in-End.ensures

pub returns-then-stands : goal.returns-then-stands
returns-then-stands c = item-stands c.args.line _ _ _ c.in-Word.ensures.here (ap (λ w. stands c.args.line w c.in-Word.token.kind) (sym c.word_bytes.ensures) ∙ sym c.stands.ensures ∙ c.if-stands.true)

pub returns-else-stands : goal.returns-else-stands
returns-else-stands c = item-stops c.args.line _ _ _ c.in-Word.ensures.here (ap (λ w. stands c.args.line w c.in-Word.token.kind) (sym c.word_bytes.ensures) ∙ sym c.stands.ensures ∙ c.if-stands.false)

pub returns-in-None : goal.returns-in-None
returns-in-None c = item-none c.args.line _ _ _ _ c.in-List.ensures.here (sym c.inside.ensures ∙ c.in-None.is)

pub returns-in-Some : goal.returns-in-Some
returns-in-Some c = item-answer c.args.line _ _ _ _ c.in-List.ensures.here c.in-Some.rest (sym c.inside.ensures ∙ c.in-Some.is) c.first_wrong.result c.first_wrong.ensures
