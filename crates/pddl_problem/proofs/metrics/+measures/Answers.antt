use Rattle.std.proofs.Common.{◌∙◌, refl, ap, ◌++◌, ◌∷◌, [], arith}
use Rattle.pddl_terms.specs.declared.trees.ExprTree.TheVariants as expr
use Rattle.pddl_terms.specs.Content.{lexeme, content_at, behind}
use Rattle.pddl_terms.specs.Expressions.{expr_by}
use Rattle.pddl_problem.specs.Metrics.{measure_by, measures, measure_tree}
use Rattle.pddl_terms.proofs.Contents.{pushed, ended}
use Rattle.pddl_terms.proofs.Building.{answered, answered_at, at_head, holding}
use Rattle.pddl_problem.proofs.Building.{measures-end, measures-word, measures-list, measure_tree-end, measure_tree-word, measure_tree-empty, measure_tree-by}
use Rattle.pddl_problem.proofs.metrics.+measures.Goals as goal

pub measure_tree-returns-in-End : goal.measure_tree-returns-in-End
measure_tree-returns-in-End t c = measure_tree-end _ _ c.in-End.ensures

pub measure_tree-returns-in-Word : goal.measure_tree-returns-in-Word
measure_tree-returns-in-Word t c = answered _ (measure_tree-word _ _ _ c.in-Word.ensures.here) c.measure_word.ensures

pub measure_tree-returns-in-End-item_at : goal.measure_tree-returns-in-End-item_at
measure_tree-returns-in-End-item_at t c = measure_tree-empty _ _ _ _ (holding c.in-List.ensures.here c.in-End-item_at.ensures) tt

pub measure_tree-returns-in-List-item_at : goal.measure_tree-returns-in-List-item_at
measure_tree-returns-in-List-item_at t c = measure_tree-empty _ _ _ _ (holding c.in-List.ensures.here c.in-List-item_at.ensures.here) tt

pub measure_tree-returns-in-Word-item_at : goal.measure_tree-returns-in-Word-item_at
measure_tree-returns-in-Word-item_at t c = answered _ (measure_tree-by _ _ _ _ _ _ c.measure_head-head.ensures c.word_bytes.ensures (holding c.in-List.ensures.here c.in-Word-item_at.ensures.here)) c.measure_by.ensures

pub measures-returns-in-End : goal.measures-returns-in-End
measures-returns-in-End t c = ended measures _ _ _ c.loop-out.invariant.whole (measures-end _ _ c.in-End.ensures)

pub measures-loop-out-preserved-in-Word : goal.measures-loop-out-preserved-in-Word
measures-loop-out-preserved-in-Word t c = record {
  above = omega arith;
  whole = pushed measures _ _ _ _ _ _ c.loop-out.invariant.whole (measures-word _ _ _ c.in-Word.ensures.here)
      (c.in_ok-push-in-Word.ensures.ok ∙ ap (λ x. c.loop-out.out ++ x ∷ []) c.in_ok-measure_word-in-Word.ensures);
}

pub measures-loop-out-preserved : goal.measures-loop-out-preserved
measures-loop-out-preserved t c = record {
  above = omega (arith, c.in-List.ensures.later);
  whole = pushed measures _ _ _ _ _ _ c.loop-out.invariant.whole (measures-list _ _ _ _ c.in-List.ensures.here)
      (c.in_ok-push-in-List.ensures.ok ∙ ap (λ x. c.loop-out.out ++ x ∷ []) c.in_ok-measure_tree-in-List.ensures);
}

pub expression_by-returns-in-LeftOut : goal.expression_by-returns-in-LeftOut
expression_by-returns-in-LeftOut t c = at_head (λ h. expr_by h c.args.place (lexeme c.args.forms.now.text c.args.word) (measures (content_at c.args.forms.now c.args.from)) (measure_tree (content_at c.args.forms.now c.args.from)) (measure_tree (behind (content_at c.args.forms.now c.args.from))) (content_at c.args.forms.now c.args.from)) c.in-LeftOut.is refl

pub expression_by-returns-in_ok-measures-in-Sum : goal.expression_by-returns-in_ok-measures-in-Sum
expression_by-returns-in_ok-measures-in-Sum t c = at_head (λ h. expr_by h c.args.place (lexeme c.args.forms.now.text c.args.word) (measures (content_at c.args.forms.now c.args.from)) (measure_tree (content_at c.args.forms.now c.args.from)) (measure_tree (behind (content_at c.args.forms.now c.args.from))) (content_at c.args.forms.now c.args.from)) c.in-Sum.is (ap (expr.Sum c.args.place) c.in_ok-measures-in-Sum.ensures)

pub expression_by-returns-in_ok-measures-in-Product : goal.expression_by-returns-in_ok-measures-in-Product
expression_by-returns-in_ok-measures-in-Product t c = at_head (λ h. expr_by h c.args.place (lexeme c.args.forms.now.text c.args.word) (measures (content_at c.args.forms.now c.args.from)) (measure_tree (content_at c.args.forms.now c.args.from)) (measure_tree (behind (content_at c.args.forms.now c.args.from))) (content_at c.args.forms.now c.args.from)) c.in-Product.is (ap (expr.Product c.args.place) c.in_ok-measures-in-Product.ensures)

pub expression_by-returns-in-Minus : goal.expression_by-returns-in-Minus
expression_by-returns-in-Minus t c = answered_at (λ h. expr_by h c.args.place (lexeme c.args.forms.now.text c.args.word) (measures (content_at c.args.forms.now c.args.from)) (measure_tree (content_at c.args.forms.now c.args.from)) (measure_tree (behind (content_at c.args.forms.now c.args.from))) (content_at c.args.forms.now c.args.from)) _ c.in-Minus.is c.minus.ensures

pub expression_by-returns-in_ok-atom_of-in-Named : goal.expression_by-returns-in_ok-atom_of-in-Named
expression_by-returns-in_ok-atom_of-in-Named t c = at_head (λ h. expr_by h c.args.place (lexeme c.args.forms.now.text c.args.word) (measures (content_at c.args.forms.now c.args.from)) (measure_tree (content_at c.args.forms.now c.args.from)) (measure_tree (behind (content_at c.args.forms.now c.args.from))) (content_at c.args.forms.now c.args.from)) c.in-Named.is (ap expr.Fluent c.in_ok-atom_of-in-Named.ensures)

pub measure_by-returns-in-TotalTime : goal.measure_by-returns-in-TotalTime
measure_by-returns-in-TotalTime t c = at_head (λ h. measure_by h c.args.place (lexeme c.args.forms.now.text c.args.word) (measures (content_at c.args.forms.now c.args.from)) (measure_tree (content_at c.args.forms.now c.args.from)) (measure_tree (behind (content_at c.args.forms.now c.args.from))) (content_at c.args.forms.now c.args.from)) c.in-TotalTime.is refl

pub measure_by-returns-in_ok-name_at-in-Violated : goal.measure_by-returns-in_ok-name_at-in-Violated
measure_by-returns-in_ok-name_at-in-Violated t c = at_head (λ h. measure_by h c.args.place (lexeme c.args.forms.now.text c.args.word) (measures (content_at c.args.forms.now c.args.from)) (measure_tree (content_at c.args.forms.now c.args.from)) (measure_tree (behind (content_at c.args.forms.now c.args.from))) (content_at c.args.forms.now c.args.from)) c.in-Violated.is (ap (expr.Violated c.args.place) c.in_ok-name_at-in-Violated.ensures)

pub measure_by-returns-in_ok-name_at-in-TimeCost : goal.measure_by-returns-in_ok-name_at-in-TimeCost
measure_by-returns-in_ok-name_at-in-TimeCost t c = at_head (λ h. measure_by h c.args.place (lexeme c.args.forms.now.text c.args.word) (measures (content_at c.args.forms.now c.args.from)) (measure_tree (content_at c.args.forms.now c.args.from)) (measure_tree (behind (content_at c.args.forms.now c.args.from))) (content_at c.args.forms.now c.args.from)) c.in-TimeCost.is (ap (expr.TimeCost c.args.place) c.in_ok-name_at-in-TimeCost.ensures)

pub measure_by-returns-in-Expression : goal.measure_by-returns-in-Expression
measure_by-returns-in-Expression t c = answered_at (λ h. measure_by h c.args.place (lexeme c.args.forms.now.text c.args.word) (measures (content_at c.args.forms.now c.args.from)) (measure_tree (content_at c.args.forms.now c.args.from)) (measure_tree (behind (content_at c.args.forms.now c.args.from))) (content_at c.args.forms.now c.args.from)) _ c.in-Expression.is c.expression_by.ensures
