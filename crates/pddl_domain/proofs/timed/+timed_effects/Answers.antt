use Rattle.std.proofs.Common.{◌∙◌, refl, ap, ◌++◌, ◌∷◌, [], arith}
use Rattle.pddl_terms.specs.declared.trees.TimedEff.TheVariants as eff
use Rattle.pddl_terms.specs.Content.{content_at}
use Rattle.pddl_domain.specs.Effects.{eff_tree}
use Rattle.pddl_domain.specs.Timed.{timed_eff_at, timed_eff_by, timed_effs}
use Rattle.pddl_terms.proofs.Contents.{pushed, skipped, ended}
use Rattle.pddl_terms.proofs.Building.{answered, answered_at, at_head, both}
use Rattle.pddl_domain.proofs.Building.{timed_eff_tree-none, timed_eff_tree-empty, timed_eff_tree-by, timed_effs-end, timed_effs-word, timed_effs-list}
use Rattle.pddl_domain.proofs.timed.+timed_effects.Goals as goal

pub timed_eff_tree-returns-in-NoList : goal.timed_eff_tree-returns-in-NoList
timed_eff_tree-returns-in-NoList t c = timed_eff_tree-none _ c.in-NoList.ensures

pub timed_eff_tree-returns-in-NoWord : goal.timed_eff_tree-returns-in-NoWord
timed_eff_tree-returns-in-NoWord t c = timed_eff_tree-empty _ _ _ _ c.in-NoWord.ensures.list c.in-NoWord.ensures.no_word

pub timed_eff_tree-returns-in-Word : goal.timed_eff_tree-returns-in-Word
timed_eff_tree-returns-in-Word t c = answered _ (timed_eff_tree-by _ _ _ _ _ _ c.timed_eff_head-head.ensures c.word_bytes.ensures c.in-Word.ensures.list) c.timed_eff_by.ensures

pub timed_effs-returns-in-End : goal.timed_effs-returns-in-End
timed_effs-returns-in-End t c = ended timed_effs _ _ _ c.loop-out.invariant.whole (timed_effs-end _ _ c.in-End.ensures)

pub timed_effs-loop-out-preserved-in-Word : goal.timed_effs-loop-out-preserved-in-Word
timed_effs-loop-out-preserved-in-Word t c = record {
  above = omega arith;
  whole = skipped timed_effs _ _ _ _ c.loop-out.invariant.whole (timed_effs-word _ _ _ c.in-Word.ensures.here);
}

pub timed_effs-loop-out-preserved : goal.timed_effs-loop-out-preserved
timed_effs-loop-out-preserved t c = record {
  above = omega (arith, c.in-List.ensures.later);
  whole = pushed timed_effs _ _ _ _ _ _ c.loop-out.invariant.whole (timed_effs-list _ _ _ _ c.in-List.ensures.here)
      (c.in_ok-push-in-List.ensures.ok ∙ ap (λ x. c.loop-out.out ++ x ∷ []) c.in_ok-timed_eff_tree-in-List.ensures);
}

pub timed_eff_by-returns-in_ok-timed_effs-in-And : goal.timed_eff_by-returns-in_ok-timed_effs-in-And
timed_eff_by-returns-in_ok-timed_effs-in-And t c = at_head (λ h. timed_eff_by h c.args.place (timed_effs (content_at c.args.forms.now c.args.from)) (content_at c.args.forms.now c.args.from)) c.in-And.is (ap (eff.And c.args.place) c.in_ok-timed_effs-in-And.ensures)

pub timed_eff_by-returns-in_ok-body-in-At : goal.timed_eff_by-returns-in_ok-body-in-At
timed_eff_by-returns-in_ok-body-in-At t c = at_head (λ h. timed_eff_by h c.args.place (timed_effs (content_at c.args.forms.now c.args.from)) (content_at c.args.forms.now c.args.from)) c.in-At.is (c.timed_eff_at.ensures ∙ both (λ b x. timed_eff_at b c.args.place x) c.is_start.ensures (c.in_ok-body-in-At.ensures ∙ ap eff_tree c.next.ensures.behind))

pub timed_eff_by-returns-in-Rate : goal.timed_eff_by-returns-in-Rate
timed_eff_by-returns-in-Rate t c = answered_at (λ h. timed_eff_by h c.args.place (timed_effs (content_at c.args.forms.now c.args.from)) (content_at c.args.forms.now c.args.from)) _ c.in-Rate.is c.change_rate.ensures

pub timed_eff_by-returns-in-LeftOut : goal.timed_eff_by-returns-in-LeftOut
timed_eff_by-returns-in-LeftOut t c = at_head (λ h. timed_eff_by h c.args.place (timed_effs (content_at c.args.forms.now c.args.from)) (content_at c.args.forms.now c.args.from)) c.in-LeftOut.is refl

pub timed_eff_by-returns-in-Unknown : goal.timed_eff_by-returns-in-Unknown
timed_eff_by-returns-in-Unknown t c = at_head (λ h. timed_eff_by h c.args.place (timed_effs (content_at c.args.forms.now c.args.from)) (content_at c.args.forms.now c.args.from)) c.in-Unknown.is refl
