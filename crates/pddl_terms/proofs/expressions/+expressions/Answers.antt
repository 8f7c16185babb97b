use Rattle.std.proofs.Common.{◌∙◌, refl, ap, ◌++◌, ◌∷◌, [], arith}
use Rattle.pddl_terms.specs.declared.trees.ExprTree.TheVariants as expr
use Rattle.pddl_terms.specs.Content.{lexeme, content_at, behind}
use Rattle.pddl_terms.specs.Expressions.{expr_by, exprs, expr_tree}
use Rattle.pddl_terms.proofs.Contents.{pushed, ended}
use Rattle.pddl_terms.proofs.Building.{answered, answered_at, at_head, holding, exprs-end, exprs-word, exprs-list, expr_tree-end, expr_tree-word, expr_tree-empty, expr_tree-by}
use Rattle.pddl_terms.proofs.expressions.+expressions.Goals as goal

pub expr_tree-returns-in-End : goal.expr_tree-returns-in-End
expr_tree-returns-in-End t c = expr_tree-end _ _ c.in-End.ensures

pub expr_tree-returns-in-Word : goal.expr_tree-returns-in-Word
expr_tree-returns-in-Word t c = answered _ (expr_tree-word _ _ _ c.in-Word.ensures.here) c.expr_word.ensures

pub expr_tree-returns-in-End-item_at : goal.expr_tree-returns-in-End-item_at
expr_tree-returns-in-End-item_at t c = expr_tree-empty _ _ _ _ (holding c.in-List.ensures.here c.in-End-item_at.ensures) tt

pub expr_tree-returns-in-List-item_at : goal.expr_tree-returns-in-List-item_at
expr_tree-returns-in-List-item_at t c = expr_tree-empty _ _ _ _ (holding c.in-List.ensures.here c.in-List-item_at.ensures.here) tt

pub expr_tree-returns-in-Word-item_at : goal.expr_tree-returns-in-Word-item_at
expr_tree-returns-in-Word-item_at t c = answered _ (expr_tree-by _ _ _ _ _ _ c.expr_head-head.ensures c.word_bytes.ensures (holding c.in-List.ensures.here c.in-Word-item_at.ensures.here)) c.expr_by.ensures

pub exprs-returns-in-End : goal.exprs-returns-in-End
exprs-returns-in-End t c = ended exprs _ _ _ c.loop-out.invariant.whole (exprs-end _ _ c.in-End.ensures)

pub exprs-loop-out-preserved-in-Word : goal.exprs-loop-out-preserved-in-Word
exprs-loop-out-preserved-in-Word t c = record {
  above = omega arith;
  whole = pushed exprs _ _ _ _ _ _ c.loop-out.invariant.whole (exprs-word _ _ _ c.in-Word.ensures.here)
      (c.in_ok-push-in-Word.ensures.ok ∙ ap (λ x. c.loop-out.out ++ x ∷ []) c.in_ok-expr_word-in-Word.ensures);
}

pub exprs-loop-out-preserved : goal.exprs-loop-out-preserved
exprs-loop-out-preserved t c = record {
  above = omega (arith, c.in-List.ensures.later);
  whole = pushed exprs _ _ _ _ _ _ c.loop-out.invariant.whole (exprs-list _ _ _ _ c.in-List.ensures.here)
      (c.in_ok-push-in-List.ensures.ok ∙ ap (λ x. c.loop-out.out ++ x ∷ []) c.in_ok-expr_tree-in-List.ensures);
}

pub expr_by-returns-in-LeftOut : goal.expr_by-returns-in-LeftOut
expr_by-returns-in-LeftOut t c = at_head (λ h. expr_by h c.args.place (lexeme c.args.forms.now.text c.args.word) (exprs (content_at c.args.forms.now c.args.from)) (expr_tree (content_at c.args.forms.now c.args.from)) (expr_tree (behind (content_at c.args.forms.now c.args.from))) (content_at c.args.forms.now c.args.from)) c.in-LeftOut.is refl

pub expr_by-returns-in_ok-exprs-in-Sum : goal.expr_by-returns-in_ok-exprs-in-Sum
expr_by-returns-in_ok-exprs-in-Sum t c = at_head (λ h. expr_by h c.args.place (lexeme c.args.forms.now.text c.args.word) (exprs (content_at c.args.forms.now c.args.from)) (expr_tree (content_at c.args.forms.now c.args.from)) (expr_tree (behind (content_at c.args.forms.now c.args.from))) (content_at c.args.forms.now c.args.from)) c.in-Sum.is (ap (expr.Sum c.args.place) c.in_ok-exprs-in-Sum.ensures)

pub expr_by-returns-in_ok-exprs-in-Product : goal.expr_by-returns-in_ok-exprs-in-Product
expr_by-returns-in_ok-exprs-in-Product t c = at_head (λ h. expr_by h c.args.place (lexeme c.args.forms.now.text c.args.word) (exprs (content_at c.args.forms.now c.args.from)) (expr_tree (content_at c.args.forms.now c.args.from)) (expr_tree (behind (content_at c.args.forms.now c.args.from))) (content_at c.args.forms.now c.args.from)) c.in-Product.is (ap (expr.Product c.args.place) c.in_ok-exprs-in-Product.ensures)

pub expr_by-returns-in-Minus : goal.expr_by-returns-in-Minus
expr_by-returns-in-Minus t c = answered_at (λ h. expr_by h c.args.place (lexeme c.args.forms.now.text c.args.word) (exprs (content_at c.args.forms.now c.args.from)) (expr_tree (content_at c.args.forms.now c.args.from)) (expr_tree (behind (content_at c.args.forms.now c.args.from))) (content_at c.args.forms.now c.args.from)) _ c.in-Minus.is c.minus.ensures

pub expr_by-returns-in_ok-atom_of-in-Named : goal.expr_by-returns-in_ok-atom_of-in-Named
expr_by-returns-in_ok-atom_of-in-Named t c = at_head (λ h. expr_by h c.args.place (lexeme c.args.forms.now.text c.args.word) (exprs (content_at c.args.forms.now c.args.from)) (expr_tree (content_at c.args.forms.now c.args.from)) (expr_tree (behind (content_at c.args.forms.now c.args.from))) (content_at c.args.forms.now c.args.from)) c.in-Named.is (ap expr.Fluent c.in_ok-atom_of-in-Named.ensures)
