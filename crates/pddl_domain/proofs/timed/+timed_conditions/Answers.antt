use Rattle.std.proofs.Common.{◌∙◌, refl, ap, ◌++◌, ◌∷◌, [], arith}
use Rattle.pddl_terms.specs.declared.trees.TimedCond.TheVariants as cond
use Rattle.pddl_terms.specs.Content.{content_at}
use Rattle.pddl_terms.specs.Conditions.{cond_tree}
use Rattle.pddl_domain.specs.Timed.{timed_cond_at, timed_cond_by, timed_conds}
use Rattle.pddl_terms.proofs.Contents.{pushed, skipped, ended}
use Rattle.pddl_terms.proofs.Building.{answered, at_head, both}
use Rattle.pddl_domain.proofs.Building.{timed_cond_tree-none, timed_cond_tree-empty, timed_cond_tree-by, timed_conds-end, timed_conds-word, timed_conds-list}
use Rattle.pddl_domain.proofs.timed.+timed_conditions.Goals as goal

pub timed_cond_tree-returns-in-NoList : goal.timed_cond_tree-returns-in-NoList
timed_cond_tree-returns-in-NoList t c = timed_cond_tree-none _ c.in-NoList.ensures

pub timed_cond_tree-returns-in-NoWord : goal.timed_cond_tree-returns-in-NoWord
timed_cond_tree-returns-in-NoWord t c = timed_cond_tree-empty _ _ _ _ c.in-NoWord.ensures.list c.in-NoWord.ensures.no_word

pub timed_cond_tree-returns-in-Word : goal.timed_cond_tree-returns-in-Word
timed_cond_tree-returns-in-Word t c = answered _ (timed_cond_tree-by _ _ _ _ _ _ c.timed_cond_head-head.ensures c.word_bytes.ensures c.in-Word.ensures.list) c.timed_cond_by.ensures

pub timed_conds-returns-in-End : goal.timed_conds-returns-in-End
timed_conds-returns-in-End t c = ended timed_conds _ _ _ c.loop-out.invariant.whole (timed_conds-end _ _ c.in-End.ensures)

pub timed_conds-loop-out-preserved-in-Word : goal.timed_conds-loop-out-preserved-in-Word
timed_conds-loop-out-preserved-in-Word t c = record {
  above = omega arith;
  whole = skipped timed_conds _ _ _ _ c.loop-out.invariant.whole (timed_conds-word _ _ _ c.in-Word.ensures.here);
}

pub timed_conds-loop-out-preserved : goal.timed_conds-loop-out-preserved
timed_conds-loop-out-preserved t c = record {
  above = omega (arith, c.in-List.ensures.later);
  whole = pushed timed_conds _ _ _ _ _ _ c.loop-out.invariant.whole (timed_conds-list _ _ _ _ c.in-List.ensures.here)
      (c.in_ok-push-in-List.ensures.ok ∙ ap (λ x. c.loop-out.out ++ x ∷ []) c.in_ok-timed_cond_tree-in-List.ensures);
}

pub timed_cond_by-returns-in_ok-timed_conds-in-And : goal.timed_cond_by-returns-in_ok-timed_conds-in-And
timed_cond_by-returns-in_ok-timed_conds-in-And t c = at_head (λ h. timed_cond_by h c.args.place (timed_conds (content_at c.args.forms.now c.args.from)) (content_at c.args.forms.now c.args.from)) c.in-And.is (ap (cond.And c.args.place) c.in_ok-timed_conds-in-And.ensures)

pub timed_cond_by-returns-in_ok-body-in-At : goal.timed_cond_by-returns-in_ok-body-in-At
timed_cond_by-returns-in_ok-body-in-At t c = at_head (λ h. timed_cond_by h c.args.place (timed_conds (content_at c.args.forms.now c.args.from)) (content_at c.args.forms.now c.args.from)) c.in-At.is (c.timed_cond_at.ensures ∙ both (λ b x. timed_cond_at b c.args.place x) c.is_start.ensures (c.in_ok-body-in-At.ensures ∙ ap cond_tree c.next-second.ensures.behind))

pub timed_cond_by-returns-in_ok-cond_tree-in-Over : goal.timed_cond_by-returns-in_ok-cond_tree-in-Over
timed_cond_by-returns-in_ok-cond_tree-in-Over t c = at_head (λ h. timed_cond_by h c.args.place (timed_conds (content_at c.args.forms.now c.args.from)) (content_at c.args.forms.now c.args.from)) c.in-Over.is (ap (cond.OverAll c.args.place) (c.in_ok-cond_tree-in-Over.ensures ∙ ap cond_tree c.next-second.ensures.behind))

pub timed_cond_by-returns-in-LeftOut : goal.timed_cond_by-returns-in-LeftOut
timed_cond_by-returns-in-LeftOut t c = at_head (λ h. timed_cond_by h c.args.place (timed_conds (content_at c.args.forms.now c.args.from)) (content_at c.args.forms.now c.args.from)) c.in-LeftOut.is refl

pub timed_cond_by-returns-in-Unknown : goal.timed_cond_by-returns-in-Unknown
timed_cond_by-returns-in-Unknown t c = at_head (λ h. timed_cond_by h c.args.place (timed_conds (content_at c.args.forms.now c.args.from)) (content_at c.args.forms.now c.args.from)) c.in-Unknown.is refl
