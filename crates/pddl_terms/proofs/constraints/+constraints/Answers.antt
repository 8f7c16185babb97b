use Rattle.std.proofs.Common.{◌∙◌, ap, ◌++◌, ◌∷◌, [], arith}
use Rattle.pddl_terms.specs.declared.trees.ConForm.TheVariants as con
use Rattle.pddl_terms.specs.Content.{content_at, behind}
use Rattle.pddl_terms.specs.Constraints.{con_by, cons, con_tree}
use Rattle.pddl_terms.proofs.Contents.{pushed, skipped, ended}
use Rattle.pddl_terms.proofs.Building.{answered, answered_at, at_head, both, con_tree-none, con_tree-empty, con_tree-by, cons-end, cons-word, cons-list}
use Rattle.pddl_terms.proofs.constraints.+constraints.Goals as goal

pub con_tree-returns-in-NoList : goal.con_tree-returns-in-NoList
con_tree-returns-in-NoList t c = con_tree-none _ c.in-NoList.ensures

pub con_tree-returns-in-NoWord : goal.con_tree-returns-in-NoWord
con_tree-returns-in-NoWord t c = con_tree-empty _ _ _ _ c.in-NoWord.ensures.list c.in-NoWord.ensures.no_word

pub con_tree-returns-in-Word : goal.con_tree-returns-in-Word
con_tree-returns-in-Word t c = answered _ (con_tree-by _ _ _ _ _ _ c.con_head-head.ensures c.word_bytes.ensures c.in-Word.ensures.list) c.con_by.ensures

pub cons-returns-in-End : goal.cons-returns-in-End
cons-returns-in-End t c = ended cons _ _ _ c.loop-out.invariant.whole (cons-end _ _ c.in-End.ensures)

pub cons-loop-out-preserved-in-Word : goal.cons-loop-out-preserved-in-Word
cons-loop-out-preserved-in-Word t c = record {
  above = omega arith;
  whole = skipped cons _ _ _ _ c.loop-out.invariant.whole (cons-word _ _ _ c.in-Word.ensures.here);
}

pub cons-loop-out-preserved : goal.cons-loop-out-preserved
cons-loop-out-preserved t c = record {
  above = omega (arith, c.in-List.ensures.later);
  whole = pushed cons _ _ _ _ _ _ c.loop-out.invariant.whole (cons-list _ _ _ _ c.in-List.ensures.here)
      (c.in_ok-push-in-List.ensures.ok ∙ ap (λ x. c.loop-out.out ++ x ∷ []) c.in_ok-con_tree-in-List.ensures);
}

pub con_by-returns-in_ok-cons-in-And : goal.con_by-returns-in_ok-cons-in-And
con_by-returns-in_ok-cons-in-And t c = at_head (λ h. con_by h c.args.place (cons (content_at c.args.forms.now c.args.from)) (con_tree (behind (content_at c.args.forms.now c.args.from))) (content_at c.args.forms.now c.args.from)) c.in-And.is (ap (con.And c.args.place) c.in_ok-cons-in-And.ensures)

pub con_by-returns-in_ok-variables-in-Forall : goal.con_by-returns-in_ok-variables-in-Forall
con_by-returns-in_ok-variables-in-Forall t c = at_head (λ h. con_by h c.args.place (cons (content_at c.args.forms.now c.args.from)) (con_tree (behind (content_at c.args.forms.now c.args.from))) (content_at c.args.forms.now c.args.from)) c.in-Forall.is (both (con.Forall c.args.place) c.in_ok-variables-in-Forall.ensures (c.in_ok-body-in-Forall-2.ensures ∙ c.in_ok-body-in-Forall.ensures ∙ ap con_tree c.next.ensures.behind))

pub con_by-returns-in-Preference : goal.con_by-returns-in-Preference
con_by-returns-in-Preference t c = answered_at (λ h. con_by h c.args.place (cons (content_at c.args.forms.now c.args.from)) (con_tree (behind (content_at c.args.forms.now c.args.from))) (content_at c.args.forms.now c.args.from)) _ c.in-Preference.is c.preference.ensures

pub con_by-returns-in_ok-trail_by-in-Trail : goal.con_by-returns-in_ok-trail_by-in-Trail
con_by-returns-in_ok-trail_by-in-Trail t c = at_head (λ h. con_by h c.args.place (cons (content_at c.args.forms.now c.args.from)) (con_tree (behind (content_at c.args.forms.now c.args.from))) (content_at c.args.forms.now c.args.from)) c.in-Trail.is (ap con.Hard c.in_ok-trail_by-in-Trail.ensures)
