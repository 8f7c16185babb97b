use Rattle.std.proofs.Common.{◌∙◌, refl, ap, ◌++◌, ◌∷◌, [], arith}
use Rattle.pddl_terms.specs.declared.trees.FactForm.TheVariants as fact
use Rattle.pddl_terms.specs.Content.{lexeme, content_at, behind}
use Rattle.pddl_terms.specs.Expressions.{side_tree}
use Rattle.pddl_terms.specs.Formulas.{fact_by, facts, fact_tree}
use Rattle.pddl_terms.proofs.Contents.{pushed, skipped, ended}
use Rattle.pddl_terms.proofs.Building.{answered, at_head, both, fact_tree-none, fact_tree-empty, fact_tree-by, facts-end, facts-word, facts-list}
use Rattle.pddl_terms.proofs.formulas.+formulas.Goals as goal

pub fact_tree-returns-in-NoList : goal.fact_tree-returns-in-NoList
fact_tree-returns-in-NoList t c = fact_tree-none _ c.in-NoList.ensures

pub fact_tree-returns-in-NoWord : goal.fact_tree-returns-in-NoWord
fact_tree-returns-in-NoWord t c = fact_tree-empty _ _ _ _ c.in-NoWord.ensures.list c.in-NoWord.ensures.no_word

pub fact_tree-returns-in-Word : goal.fact_tree-returns-in-Word
fact_tree-returns-in-Word t c = answered _ (fact_tree-by _ _ _ _ _ _ c.tree_head-head.ensures c.word_bytes.ensures c.in-Word.ensures.list) c.fact_by.ensures

pub facts-returns-in-End : goal.facts-returns-in-End
facts-returns-in-End t c = ended facts _ _ _ c.loop-out.invariant.whole (facts-end _ _ c.in-End.ensures)

pub facts-loop-out-preserved-in-Word : goal.facts-loop-out-preserved-in-Word
facts-loop-out-preserved-in-Word t c = record {
  above = omega arith;
  whole = skipped facts _ _ _ _ c.loop-out.invariant.whole (facts-word _ _ _ c.in-Word.ensures.here);
}

pub facts-loop-out-preserved : goal.facts-loop-out-preserved
facts-loop-out-preserved t c = record {
  above = omega (arith, c.in-List.ensures.later);
  whole = pushed facts _ _ _ _ _ _ c.loop-out.invariant.whole (facts-list _ _ _ _ c.in-List.ensures.here)
      (c.in_ok-push-in-List.ensures.ok ∙ ap (λ x. c.loop-out.out ++ x ∷ []) c.in_ok-fact_tree-in-List.ensures);
}

pub fact_by-returns-in-LeftOut : goal.fact_by-returns-in-LeftOut
fact_by-returns-in-LeftOut t c = at_head (λ h. fact_by h c.args.place (lexeme c.args.forms.now.text c.args.word) (facts (content_at c.args.forms.now c.args.from)) (fact_tree (content_at c.args.forms.now c.args.from)) (fact_tree (behind (content_at c.args.forms.now c.args.from))) (content_at c.args.forms.now c.args.from)) c.in-LeftOut.is refl

pub fact_by-returns-in_ok-atom_of-in-Named : goal.fact_by-returns-in_ok-atom_of-in-Named
fact_by-returns-in_ok-atom_of-in-Named t c = at_head (λ h. fact_by h c.args.place (lexeme c.args.forms.now.text c.args.word) (facts (content_at c.args.forms.now c.args.from)) (fact_tree (content_at c.args.forms.now c.args.from)) (fact_tree (behind (content_at c.args.forms.now c.args.from))) (content_at c.args.forms.now c.args.from)) c.in-Named.is (ap fact.Atom c.in_ok-atom_of-in-Named.ensures)

pub fact_by-returns-in_ok-side_tree-in-Equal : goal.fact_by-returns-in_ok-side_tree-in-Equal
fact_by-returns-in_ok-side_tree-in-Equal t c = at_head (λ h. fact_by h c.args.place (lexeme c.args.forms.now.text c.args.word) (facts (content_at c.args.forms.now c.args.from)) (fact_tree (content_at c.args.forms.now c.args.from)) (fact_tree (behind (content_at c.args.forms.now c.args.from))) (content_at c.args.forms.now c.args.from)) c.in-Equal.is (both (fact.Equal c.args.place) c.in_ok-left-in-Equal.ensures (c.in_ok-side_tree-in-Equal.ensures ∙ ap side_tree c.next-second.ensures.behind))

pub fact_by-returns-in_ok-facts-in-And : goal.fact_by-returns-in_ok-facts-in-And
fact_by-returns-in_ok-facts-in-And t c = at_head (λ h. fact_by h c.args.place (lexeme c.args.forms.now.text c.args.word) (facts (content_at c.args.forms.now c.args.from)) (fact_tree (content_at c.args.forms.now c.args.from)) (fact_tree (behind (content_at c.args.forms.now c.args.from))) (content_at c.args.forms.now c.args.from)) c.in-And.is (ap (fact.And c.args.place) c.in_ok-facts-in-And.ensures)

pub fact_by-returns-in_ok-facts-in-Or : goal.fact_by-returns-in_ok-facts-in-Or
fact_by-returns-in_ok-facts-in-Or t c = at_head (λ h. fact_by h c.args.place (lexeme c.args.forms.now.text c.args.word) (facts (content_at c.args.forms.now c.args.from)) (fact_tree (content_at c.args.forms.now c.args.from)) (fact_tree (behind (content_at c.args.forms.now c.args.from))) (content_at c.args.forms.now c.args.from)) c.in-Or.is (ap (fact.Or c.args.place) c.in_ok-facts-in-Or.ensures)

pub fact_by-returns-in_ok-boxed_fact-in-Not : goal.fact_by-returns-in_ok-boxed_fact-in-Not
fact_by-returns-in_ok-boxed_fact-in-Not t c = at_head (λ h. fact_by h c.args.place (lexeme c.args.forms.now.text c.args.word) (facts (content_at c.args.forms.now c.args.from)) (fact_tree (content_at c.args.forms.now c.args.from)) (fact_tree (behind (content_at c.args.forms.now c.args.from))) (content_at c.args.forms.now c.args.from)) c.in-Not.is (ap (fact.Not c.args.place) c.in_ok-boxed_fact-in-Not.ensures)

pub fact_by-returns-in_ok-boxed_fact-in-Imply : goal.fact_by-returns-in_ok-boxed_fact-in-Imply
fact_by-returns-in_ok-boxed_fact-in-Imply t c = at_head (λ h. fact_by h c.args.place (lexeme c.args.forms.now.text c.args.word) (facts (content_at c.args.forms.now c.args.from)) (fact_tree (content_at c.args.forms.now c.args.from)) (fact_tree (behind (content_at c.args.forms.now c.args.from))) (content_at c.args.forms.now c.args.from)) c.in-Imply.is (both (fact.Imply c.args.place) c.in_ok-left-in-Imply.ensures (c.in_ok-boxed_fact-in-Imply.ensures ∙ ap fact_tree c.next-second.ensures.behind))

pub fact_by-returns-in_ok-boxed_fact-in-Exists : goal.fact_by-returns-in_ok-boxed_fact-in-Exists
fact_by-returns-in_ok-boxed_fact-in-Exists t c = at_head (λ h. fact_by h c.args.place (lexeme c.args.forms.now.text c.args.word) (facts (content_at c.args.forms.now c.args.from)) (fact_tree (content_at c.args.forms.now c.args.from)) (fact_tree (behind (content_at c.args.forms.now c.args.from))) (content_at c.args.forms.now c.args.from)) c.in-Exists.is (both (fact.Exists c.args.place) c.in_ok-variables-in-Exists.ensures (c.in_ok-boxed_fact-in-Exists.ensures ∙ ap fact_tree c.next-second.ensures.behind))

pub fact_by-returns-in_ok-boxed_fact-in-Forall : goal.fact_by-returns-in_ok-boxed_fact-in-Forall
fact_by-returns-in_ok-boxed_fact-in-Forall t c = at_head (λ h. fact_by h c.args.place (lexeme c.args.forms.now.text c.args.word) (facts (content_at c.args.forms.now c.args.from)) (fact_tree (content_at c.args.forms.now c.args.from)) (fact_tree (behind (content_at c.args.forms.now c.args.from))) (content_at c.args.forms.now c.args.from)) c.in-Forall.is (both (fact.Forall c.args.place) c.in_ok-variables-in-Forall.ensures (c.in_ok-boxed_fact-in-Forall.ensures ∙ ap fact_tree c.next-second.ensures.behind))
