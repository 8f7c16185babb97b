use Rattle.std.proofs.Common.{◌∙◌, ap, ◌+◌, ◌++◌, ◌∷◌, [], arith}
use Rattle.pddl_terms.specs.declared.trees.SoftTree.TheVariants as soft
use Rattle.pddl_terms.specs.Content.{content_at, behind}
use Rattle.pddl_terms.specs.Expressions.{side_tree}
use Rattle.pddl_problem.specs.Goals.{soft_by, soft_formula, softs}
use Rattle.pddl_terms.proofs.Contents.{pushed, skipped, ended}
use Rattle.pddl_terms.proofs.Building.{answered, answered_at, at_head, both}
use Rattle.pddl_problem.proofs.Building.{cmp-held, fact-held, soft_tree-end, soft_tree-word, soft_tree-by, softs-end, softs-word, softs-list}
use Rattle.pddl_problem.proofs.goals.+softs.Goals as goal

pub soft_tree-returns-in-End : goal.soft_tree-returns-in-End
soft_tree-returns-in-End t c = soft_tree-end _ _ c.in-End.ensures

pub soft_tree-returns-in-Word : goal.soft_tree-returns-in-Word
soft_tree-returns-in-Word t c = soft_tree-word _ _ _ c.in-Word.ensures.here

pub soft_tree-returns-in-List : goal.soft_tree-returns-in-List
soft_tree-returns-in-List t c = answered _ (soft_tree-by _ _ _ _ c.in-List.ensures.here _ c.soft_head-head.ensures c.word_ahead.ensures) c.soft_by.ensures

pub soft_by-returns-in_ok-cmp_tree-in-Compare : goal.soft_by-returns-in_ok-cmp_tree-in-Compare
soft_by-returns-in_ok-cmp_tree-in-Compare t c = at_head (λ h. soft_by h c.args.list.at (softs (behind (content_at c.args.forms.now (c.args.at + 1)))) (content_at c.args.forms.now (c.args.at + 1))) c.in-Compare.is (ap soft.Comparison (c.in_ok-cmp_tree-in-Compare.ensures ∙ cmp-held _ _ _ _ c.requires.here))

pub soft_by-returns-in-Formula : goal.soft_by-returns-in-Formula
soft_by-returns-in-Formula t c = answered_at (λ h. soft_by h c.args.list.at (softs (behind (content_at c.args.forms.now (c.args.at + 1)))) (content_at c.args.forms.now (c.args.at + 1))) _ c.in-Formula.is c.soft_formula.ensures

pub soft_formula-returns-in_ok-softs-in-And : goal.soft_formula-returns-in_ok-softs-in-And
soft_formula-returns-in_ok-softs-in-And t c = at_head (λ h. soft_formula h c.args.list.at (softs (behind (content_at c.args.forms.now (c.args.at + 1)))) (content_at c.args.forms.now (c.args.at + 1))) c.in-And.is (ap (soft.And c.args.list.at) (c.in_ok-softs-in-And.ensures ∙ ap softs c.next-second.ensures.behind))

pub soft_formula-returns-in_ok-right-in-Equal : goal.soft_formula-returns-in_ok-right-in-Equal
soft_formula-returns-in_ok-right-in-Equal t c = at_head (λ h. soft_formula h c.args.list.at (softs (behind (content_at c.args.forms.now (c.args.at + 1)))) (content_at c.args.forms.now (c.args.at + 1))) c.in-Equal.is (both (soft.Equal c.args.list.at) (c.in_ok-left-in-Equal.ensures ∙ ap side_tree c.next-second.ensures.behind)
    (c.in_ok-right-in-Equal.ensures ∙ ap side_tree (c.next.ensures.behind ∙ ap behind c.next-second.ensures.behind)))

pub soft_formula-returns-in-Not : goal.soft_formula-returns-in-Not
soft_formula-returns-in-Not t c = answered_at (λ h. soft_formula h c.args.list.at (softs (behind (content_at c.args.forms.now (c.args.at + 1)))) (content_at c.args.forms.now (c.args.at + 1))) _ c.in-Not.is c.denied_soft.ensures

pub soft_formula-returns-in_ok-fact_tree-in-LeftOut : goal.soft_formula-returns-in_ok-fact_tree-in-LeftOut
soft_formula-returns-in_ok-fact_tree-in-LeftOut t c = at_head (λ h. soft_formula h c.args.list.at (softs (behind (content_at c.args.forms.now (c.args.at + 1)))) (content_at c.args.forms.now (c.args.at + 1))) c.in-LeftOut.is (ap soft.Formula (c.in_ok-fact_tree-in-LeftOut.ensures ∙ fact-held _ _ _ _ c.requires.here))

pub soft_formula-returns-in_ok-fact_tree-in-Named : goal.soft_formula-returns-in_ok-fact_tree-in-Named
soft_formula-returns-in_ok-fact_tree-in-Named t c = at_head (λ h. soft_formula h c.args.list.at (softs (behind (content_at c.args.forms.now (c.args.at + 1)))) (content_at c.args.forms.now (c.args.at + 1))) c.in-Named.is (ap soft.Formula (c.in_ok-fact_tree-in-Named.ensures ∙ fact-held _ _ _ _ c.requires.here))

pub soft_formula-returns-in_ok-fact_tree-in-Or : goal.soft_formula-returns-in_ok-fact_tree-in-Or
soft_formula-returns-in_ok-fact_tree-in-Or t c = at_head (λ h. soft_formula h c.args.list.at (softs (behind (content_at c.args.forms.now (c.args.at + 1)))) (content_at c.args.forms.now (c.args.at + 1))) c.in-Or.is (ap soft.Formula (c.in_ok-fact_tree-in-Or.ensures ∙ fact-held _ _ _ _ c.requires.here))

pub soft_formula-returns-in_ok-fact_tree-in-Imply : goal.soft_formula-returns-in_ok-fact_tree-in-Imply
soft_formula-returns-in_ok-fact_tree-in-Imply t c = at_head (λ h. soft_formula h c.args.list.at (softs (behind (content_at c.args.forms.now (c.args.at + 1)))) (content_at c.args.forms.now (c.args.at + 1))) c.in-Imply.is (ap soft.Formula (c.in_ok-fact_tree-in-Imply.ensures ∙ fact-held _ _ _ _ c.requires.here))

pub soft_formula-returns-in_ok-fact_tree-in-Exists : goal.soft_formula-returns-in_ok-fact_tree-in-Exists
soft_formula-returns-in_ok-fact_tree-in-Exists t c = at_head (λ h. soft_formula h c.args.list.at (softs (behind (content_at c.args.forms.now (c.args.at + 1)))) (content_at c.args.forms.now (c.args.at + 1))) c.in-Exists.is (ap soft.Formula (c.in_ok-fact_tree-in-Exists.ensures ∙ fact-held _ _ _ _ c.requires.here))

pub soft_formula-returns-in_ok-fact_tree-in-Forall : goal.soft_formula-returns-in_ok-fact_tree-in-Forall
soft_formula-returns-in_ok-fact_tree-in-Forall t c = at_head (λ h. soft_formula h c.args.list.at (softs (behind (content_at c.args.forms.now (c.args.at + 1)))) (content_at c.args.forms.now (c.args.at + 1))) c.in-Forall.is (ap soft.Formula (c.in_ok-fact_tree-in-Forall.ensures ∙ fact-held _ _ _ _ c.requires.here))

pub softs-returns-in-End : goal.softs-returns-in-End
softs-returns-in-End t c = ended softs _ _ _ c.loop-out.invariant.whole (softs-end _ _ c.in-End.ensures)

pub softs-loop-out-preserved-in-Word : goal.softs-loop-out-preserved-in-Word
softs-loop-out-preserved-in-Word t c = record {
  above = omega arith;
  whole = skipped softs _ _ _ _ c.loop-out.invariant.whole (softs-word _ _ _ c.in-Word.ensures.here);
}

pub softs-loop-out-preserved : goal.softs-loop-out-preserved
softs-loop-out-preserved t c = record {
  above = omega (arith, c.in-List.ensures.later);
  whole = pushed softs _ _ _ _ _ _ c.loop-out.invariant.whole (softs-list _ _ _ _ c.in-List.ensures.here)
      (c.in_ok-push-in-List.ensures.ok ∙ ap (λ x. c.loop-out.out ++ x ∷ []) c.in_ok-soft_tree-in-List.ensures);
}
