use Rattle.std.proofs.Common.{◌∙◌, refl, ap, ◌++◌, ◌∷◌, [], arith}
use Rattle.pddl_terms.specs.declared.trees.CondTree.TheVariants as cond
use Rattle.pddl_terms.specs.Content.{lexeme, content_at, behind}
use Rattle.pddl_terms.specs.Conditions.{cond_by, conds, cond_tree}
use Rattle.pddl_terms.proofs.Contents.{pushed, skipped, ended}
use Rattle.pddl_terms.proofs.Building.{answered, answered_at, at_head, both, cond_tree-none, cond_tree-empty, cond_tree-by, conds-end, conds-word, conds-list}
use Rattle.pddl_terms.proofs.conditions.+conditions.Goals as goal

pub cond_tree-returns-in-NoList : goal.cond_tree-returns-in-NoList
cond_tree-returns-in-NoList t c = cond_tree-none _ c.in-NoList.ensures

pub cond_tree-returns-in-NoWord : goal.cond_tree-returns-in-NoWord
cond_tree-returns-in-NoWord t c = cond_tree-empty _ _ _ _ c.in-NoWord.ensures.list c.in-NoWord.ensures.no_word

pub cond_tree-returns-in-Word : goal.cond_tree-returns-in-Word
cond_tree-returns-in-Word t c = answered _ (cond_tree-by _ _ _ _ _ _ c.cond_head-head.ensures c.word_bytes.ensures c.in-Word.ensures.list) c.cond_by.ensures

pub conds-returns-in-End : goal.conds-returns-in-End
conds-returns-in-End t c = ended conds _ _ _ c.loop-out.invariant.whole (conds-end _ _ c.in-End.ensures)

pub conds-loop-out-preserved-in-Word : goal.conds-loop-out-preserved-in-Word
conds-loop-out-preserved-in-Word t c = record {
  above = omega arith;
  whole = skipped conds _ _ _ _ c.loop-out.invariant.whole (conds-word _ _ _ c.in-Word.ensures.here);
}

pub conds-loop-out-preserved : goal.conds-loop-out-preserved
conds-loop-out-preserved t c = record {
  above = omega (arith, c.in-List.ensures.later);
  whole = pushed conds _ _ _ _ _ _ c.loop-out.invariant.whole (conds-list _ _ _ _ c.in-List.ensures.here)
      (c.in_ok-push-in-List.ensures.ok ∙ ap (λ x. c.loop-out.out ++ x ∷ []) c.in_ok-cond_tree-in-List.ensures);
}

pub cond_by-returns-in-LeftOut : goal.cond_by-returns-in-LeftOut
cond_by-returns-in-LeftOut t c = at_head (λ h. cond_by h c.args.place (lexeme c.args.forms.now.text c.args.word) (conds (content_at c.args.forms.now c.args.from)) (cond_tree (behind (content_at c.args.forms.now c.args.from))) (content_at c.args.forms.now c.args.from)) c.in-LeftOut.is refl

pub cond_by-returns-in_ok-conds-in-And : goal.cond_by-returns-in_ok-conds-in-And
cond_by-returns-in_ok-conds-in-And t c = at_head (λ h. cond_by h c.args.place (lexeme c.args.forms.now.text c.args.word) (conds (content_at c.args.forms.now c.args.from)) (cond_tree (behind (content_at c.args.forms.now c.args.from))) (content_at c.args.forms.now c.args.from)) c.in-And.is (ap (cond.And c.args.place) c.in_ok-conds-in-And.ensures)

pub cond_by-returns-in_ok-variables-in-Forall : goal.cond_by-returns-in_ok-variables-in-Forall
cond_by-returns-in_ok-variables-in-Forall t c = at_head (λ h. cond_by h c.args.place (lexeme c.args.forms.now.text c.args.word) (conds (content_at c.args.forms.now c.args.from)) (cond_tree (behind (content_at c.args.forms.now c.args.from))) (content_at c.args.forms.now c.args.from)) c.in-Forall.is (both (cond.Forall c.args.place) c.in_ok-variables-in-Forall.ensures (c.in_ok-body-in-Forall-2.ensures ∙ c.in_ok-body-in-Forall.ensures ∙ ap cond_tree c.next.ensures.behind))

pub cond_by-returns-in_ok-new-in-Not : goal.cond_by-returns-in_ok-new-in-Not
cond_by-returns-in_ok-new-in-Not t c = at_head (λ h. cond_by h c.args.place (lexeme c.args.forms.now.text c.args.word) (conds (content_at c.args.forms.now c.args.from)) (cond_tree (behind (content_at c.args.forms.now c.args.from))) (content_at c.args.forms.now c.args.from)) c.in-Not.is (ap (cond.Not c.args.place) (c.in_ok-new-in-Not.ensures ∙ c.in_ok-inner-in-Not.ensures))

pub cond_by-returns-in-Equal : goal.cond_by-returns-in-Equal
cond_by-returns-in-Equal t c = answered_at (λ h. cond_by h c.args.place (lexeme c.args.forms.now.text c.args.word) (conds (content_at c.args.forms.now c.args.from)) (cond_tree (behind (content_at c.args.forms.now c.args.from))) (content_at c.args.forms.now c.args.from)) _ c.in-Equal.is c.equal.ensures

pub cond_by-returns-in-Compare : goal.cond_by-returns-in-Compare
cond_by-returns-in-Compare t c = answered_at (λ h. cond_by h c.args.place (lexeme c.args.forms.now.text c.args.word) (conds (content_at c.args.forms.now c.args.from)) (cond_tree (behind (content_at c.args.forms.now c.args.from))) (content_at c.args.forms.now c.args.from)) _ c.in-Compare.is c.compare.ensures

pub cond_by-returns-in_ok-atom_of-in-Named : goal.cond_by-returns-in_ok-atom_of-in-Named
cond_by-returns-in_ok-atom_of-in-Named t c = at_head (λ h. cond_by h c.args.place (lexeme c.args.forms.now.text c.args.word) (conds (content_at c.args.forms.now c.args.from)) (cond_tree (behind (content_at c.args.forms.now c.args.from))) (content_at c.args.forms.now c.args.from)) c.in-Named.is (ap cond.Atom c.in_ok-atom_of-in-Named.ensures)
