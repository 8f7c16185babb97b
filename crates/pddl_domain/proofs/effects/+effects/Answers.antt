use Rattle.std.proofs.Common.{◌∙◌, refl, ap, ◌++◌, ◌∷◌, [], arith}
use Rattle.pddl_terms.specs.declared.trees.EffTree.TheVariants as eff
use Rattle.pddl_terms.specs.Content.{lexeme, content_at}
use Rattle.pddl_domain.specs.Effects.{eff_by, effs}
use Rattle.pddl_terms.proofs.Contents.{pushed, skipped, ended}
use Rattle.pddl_terms.proofs.Building.{answered, answered_at, at_head}
use Rattle.pddl_domain.proofs.Building.{eff_tree-none, eff_tree-empty, eff_tree-by, effs-end, effs-word, effs-list}
use Rattle.pddl_domain.proofs.effects.+effects.Goals as goal

pub eff_tree-returns-in-NoList : goal.eff_tree-returns-in-NoList
eff_tree-returns-in-NoList t c = eff_tree-none _ c.in-NoList.ensures

pub eff_tree-returns-in-NoWord : goal.eff_tree-returns-in-NoWord
eff_tree-returns-in-NoWord t c = eff_tree-empty _ _ _ _ c.in-NoWord.ensures.list c.in-NoWord.ensures.no_word

pub eff_tree-returns-in-Word : goal.eff_tree-returns-in-Word
eff_tree-returns-in-Word t c = answered _ (eff_tree-by _ _ _ _ _ _ c.eff_head-head.ensures c.word_bytes.ensures c.in-Word.ensures.list) c.eff_by.ensures

pub effs-returns-in-End : goal.effs-returns-in-End
effs-returns-in-End t c = ended effs _ _ _ c.loop-out.invariant.whole (effs-end _ _ c.in-End.ensures)

pub effs-loop-out-preserved-in-Word : goal.effs-loop-out-preserved-in-Word
effs-loop-out-preserved-in-Word t c = record {
  above = omega arith;
  whole = skipped effs _ _ _ _ c.loop-out.invariant.whole (effs-word _ _ _ c.in-Word.ensures.here);
}

pub effs-loop-out-preserved : goal.effs-loop-out-preserved
effs-loop-out-preserved t c = record {
  above = omega (arith, c.in-List.ensures.later);
  whole = pushed effs _ _ _ _ _ _ c.loop-out.invariant.whole (effs-list _ _ _ _ c.in-List.ensures.here)
      (c.in_ok-push-in-List.ensures.ok ∙ ap (λ x. c.loop-out.out ++ x ∷ []) c.in_ok-eff_tree-in-List.ensures);
}

pub eff_by-returns-in-LeftOut : goal.eff_by-returns-in-LeftOut
eff_by-returns-in-LeftOut t c = at_head (λ h. eff_by h c.args.place (lexeme c.args.forms.now.text c.args.word) (effs (content_at c.args.forms.now c.args.from)) (content_at c.args.forms.now c.args.from)) c.in-LeftOut.is refl

pub eff_by-returns-in_ok-effs-in-And : goal.eff_by-returns-in_ok-effs-in-And
eff_by-returns-in_ok-effs-in-And t c = at_head (λ h. eff_by h c.args.place (lexeme c.args.forms.now.text c.args.word) (effs (content_at c.args.forms.now c.args.from)) (content_at c.args.forms.now c.args.from)) c.in-And.is (ap (eff.And c.args.place) c.in_ok-effs-in-And.ensures)

pub eff_by-returns-in_ok-deleted_tree-in-Not : goal.eff_by-returns-in_ok-deleted_tree-in-Not
eff_by-returns-in_ok-deleted_tree-in-Not t c = at_head (λ h. eff_by h c.args.place (lexeme c.args.forms.now.text c.args.word) (effs (content_at c.args.forms.now c.args.from)) (content_at c.args.forms.now c.args.from)) c.in-Not.is (ap (eff.Delete c.args.place) c.in_ok-deleted_tree-in-Not.ensures)

pub eff_by-returns-in-Change : goal.eff_by-returns-in-Change
eff_by-returns-in-Change t c = answered_at (λ h. eff_by h c.args.place (lexeme c.args.forms.now.text c.args.word) (effs (content_at c.args.forms.now c.args.from)) (content_at c.args.forms.now c.args.from)) _ c.in-Change.is c.change.ensures

pub eff_by-returns-in_ok-atom_of-in-Named : goal.eff_by-returns-in_ok-atom_of-in-Named
eff_by-returns-in_ok-atom_of-in-Named t c = at_head (λ h. eff_by h c.args.place (lexeme c.args.forms.now.text c.args.word) (effs (content_at c.args.forms.now c.args.from)) (content_at c.args.forms.now c.args.from)) c.in-Named.is (ap eff.Add c.in_ok-atom_of-in-Named.ensures)
