use Rattle.std.proofs.Common.{◌∙◌, ap, ◌+◌, ◌++◌, ◌∷◌, [], arith}
use Rattle.pddl_terms.specs.declared.trees.GoalTree.TheVariants as tree
use Rattle.pddl_terms.specs.Content.{content_at, behind}
use Rattle.pddl_terms.specs.Typed.{variables}
use Rattle.pddl_problem.specs.Goals.{preference, goal_by, goal_cond, goals, goal_tree}
use Rattle.pddl_terms.proofs.Contents.{pushed, skipped, ended}
use Rattle.pddl_terms.proofs.Building.{answered, answered_at, at_head, both}
use Rattle.pddl_problem.proofs.Building.{cond-held, goal_tree-end, goal_tree-word, goal_tree-by, goals-end, goals-word, goals-list}
use Rattle.pddl_problem.proofs.goals.+goals.Goals as goal

pub goal_tree-returns-in-End : goal.goal_tree-returns-in-End
goal_tree-returns-in-End t c = goal_tree-end _ _ c.in-End.ensures

pub goal_tree-returns-in-Word : goal.goal_tree-returns-in-Word
goal_tree-returns-in-Word t c = goal_tree-word _ _ _ c.in-Word.ensures.here

pub goal_tree-returns-in-List : goal.goal_tree-returns-in-List
goal_tree-returns-in-List t c = answered _ (goal_tree-by _ _ _ _ c.in-List.ensures.here _ c.goal_head-head.ensures c.word_ahead.ensures) c.goal_by.ensures

pub goal_by-returns-in-Preference : goal.goal_by-returns-in-Preference
goal_by-returns-in-Preference t c = answered_at (λ h. goal_by h c.args.list.at (goals (behind (content_at c.args.forms.now (c.args.at + 1)))) (goal_tree (behind (behind (content_at c.args.forms.now (c.args.at + 1))))) (content_at c.args.forms.now (c.args.at + 1))) _ c.in-Preference.is (answered _ (ap (preference c.args.list.at) c.next.ensures.behind) c.preference.ensures)

pub goal_by-returns-in-Condition : goal.goal_by-returns-in-Condition
goal_by-returns-in-Condition t c = answered_at (λ h. goal_by h c.args.list.at (goals (behind (content_at c.args.forms.now (c.args.at + 1)))) (goal_tree (behind (behind (content_at c.args.forms.now (c.args.at + 1))))) (content_at c.args.forms.now (c.args.at + 1))) _ c.in-Condition.is c.goal_cond.ensures

pub goal_cond-returns-in_ok-goals-in-And : goal.goal_cond-returns-in_ok-goals-in-And
goal_cond-returns-in_ok-goals-in-And t c = at_head (λ h. goal_cond h c.args.list.at (goals (behind (content_at c.args.forms.now (c.args.at + 1)))) (goal_tree (behind (behind (content_at c.args.forms.now (c.args.at + 1))))) (content_at c.args.forms.now (c.args.at + 1))) c.in-And.is (ap (tree.And c.args.list.at) (c.in_ok-goals-in-And.ensures ∙ ap goals c.next-second.ensures.behind))

pub goal_cond-returns-in_ok-variables-in-Forall : goal.goal_cond-returns-in_ok-variables-in-Forall
goal_cond-returns-in_ok-variables-in-Forall t c = at_head (λ h. goal_cond h c.args.list.at (goals (behind (content_at c.args.forms.now (c.args.at + 1)))) (goal_tree (behind (behind (content_at c.args.forms.now (c.args.at + 1))))) (content_at c.args.forms.now (c.args.at + 1))) c.in-Forall.is (both (tree.Forall c.args.list.at) (c.in_ok-variables-in-Forall.ensures ∙ ap variables c.next-second.ensures.behind)
    (c.in_ok-body-in-Forall-2.ensures ∙ c.in_ok-body-in-Forall.ensures ∙ ap goal_tree (c.next.ensures.behind ∙ ap behind c.next-second.ensures.behind)))

pub goal_cond-returns-in_ok-cond_tree-in-LeftOut : goal.goal_cond-returns-in_ok-cond_tree-in-LeftOut
goal_cond-returns-in_ok-cond_tree-in-LeftOut t c = at_head (λ h. goal_cond h c.args.list.at (goals (behind (content_at c.args.forms.now (c.args.at + 1)))) (goal_tree (behind (behind (content_at c.args.forms.now (c.args.at + 1))))) (content_at c.args.forms.now (c.args.at + 1))) c.in-LeftOut.is (ap tree.Condition (c.in_ok-cond_tree-in-LeftOut.ensures ∙ cond-held _ _ _ _ c.requires.here))

pub goal_cond-returns-in_ok-cond_tree-in-Not : goal.goal_cond-returns-in_ok-cond_tree-in-Not
goal_cond-returns-in_ok-cond_tree-in-Not t c = at_head (λ h. goal_cond h c.args.list.at (goals (behind (content_at c.args.forms.now (c.args.at + 1)))) (goal_tree (behind (behind (content_at c.args.forms.now (c.args.at + 1))))) (content_at c.args.forms.now (c.args.at + 1))) c.in-Not.is (ap tree.Condition (c.in_ok-cond_tree-in-Not.ensures ∙ cond-held _ _ _ _ c.requires.here))

pub goal_cond-returns-in_ok-cond_tree-in-Equal : goal.goal_cond-returns-in_ok-cond_tree-in-Equal
goal_cond-returns-in_ok-cond_tree-in-Equal t c = at_head (λ h. goal_cond h c.args.list.at (goals (behind (content_at c.args.forms.now (c.args.at + 1)))) (goal_tree (behind (behind (content_at c.args.forms.now (c.args.at + 1))))) (content_at c.args.forms.now (c.args.at + 1))) c.in-Equal.is (ap tree.Condition (c.in_ok-cond_tree-in-Equal.ensures ∙ cond-held _ _ _ _ c.requires.here))

pub goal_cond-returns-in_ok-cond_tree-in-Compare : goal.goal_cond-returns-in_ok-cond_tree-in-Compare
goal_cond-returns-in_ok-cond_tree-in-Compare t c = at_head (λ h. goal_cond h c.args.list.at (goals (behind (content_at c.args.forms.now (c.args.at + 1)))) (goal_tree (behind (behind (content_at c.args.forms.now (c.args.at + 1))))) (content_at c.args.forms.now (c.args.at + 1))) c.in-Compare.is (ap tree.Condition (c.in_ok-cond_tree-in-Compare.ensures ∙ cond-held _ _ _ _ c.requires.here))

pub goal_cond-returns-in_ok-cond_tree-in-Named : goal.goal_cond-returns-in_ok-cond_tree-in-Named
goal_cond-returns-in_ok-cond_tree-in-Named t c = at_head (λ h. goal_cond h c.args.list.at (goals (behind (content_at c.args.forms.now (c.args.at + 1)))) (goal_tree (behind (behind (content_at c.args.forms.now (c.args.at + 1))))) (content_at c.args.forms.now (c.args.at + 1))) c.in-Named.is (ap tree.Condition (c.in_ok-cond_tree-in-Named.ensures ∙ cond-held _ _ _ _ c.requires.here))

pub goals-returns-in-End : goal.goals-returns-in-End
goals-returns-in-End t c = ended goals _ _ _ c.loop-out.invariant.whole (goals-end _ _ c.in-End.ensures)

pub goals-loop-out-preserved-in-Word : goal.goals-loop-out-preserved-in-Word
goals-loop-out-preserved-in-Word t c = record {
  above = omega arith;
  whole = skipped goals _ _ _ _ c.loop-out.invariant.whole (goals-word _ _ _ c.in-Word.ensures.here);
}

pub goals-loop-out-preserved : goal.goals-loop-out-preserved
goals-loop-out-preserved t c = record {
  above = omega (arith, c.in-List.ensures.later);
  whole = pushed goals _ _ _ _ _ _ c.loop-out.invariant.whole (goals-list _ _ _ _ c.in-List.ensures.here)
      (c.in_ok-push-in-List.ensures.ok ∙ ap (λ x. c.loop-out.out ++ x ∷ []) c.in_ok-goal_tree-in-List.ensures);
}
