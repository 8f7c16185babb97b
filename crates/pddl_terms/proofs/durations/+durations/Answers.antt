use Rattle.std.proofs.Common.{◌∙◌, ap, ◌++◌, ◌∷◌, [], arith}
use Rattle.pddl_terms.specs.declared.trees.DurTree.TheVariants as dur
use Rattle.pddl_terms.specs.Content.{content_at, behind}
use Rattle.pddl_terms.specs.Durations.{dur_by, durs, dur_tree}
use Rattle.pddl_terms.proofs.Contents.{pushed, skipped, ended}
use Rattle.pddl_terms.proofs.Building.{answered, at_head, dur_tree-none, dur_tree-empty, dur_tree-by, durs-end, durs-word, durs-list}
use Rattle.pddl_terms.proofs.durations.+durations.Goals as goal

pub dur_tree-returns-in-NoList : goal.dur_tree-returns-in-NoList
dur_tree-returns-in-NoList t c = dur_tree-none _ c.in-NoList.ensures

pub dur_tree-returns-in-NoWord : goal.dur_tree-returns-in-NoWord
dur_tree-returns-in-NoWord t c = dur_tree-empty _ _ _ _ c.in-NoWord.ensures.list c.in-NoWord.ensures.no_word

pub dur_tree-returns-in-Word : goal.dur_tree-returns-in-Word
dur_tree-returns-in-Word t c = answered _ (dur_tree-by _ _ _ _ _ _ c.dur_head-head.ensures c.word_bytes.ensures c.in-Word.ensures.list) c.dur_by.ensures

pub durs-returns-in-End : goal.durs-returns-in-End
durs-returns-in-End t c = ended durs _ _ _ c.loop-out.invariant.whole (durs-end _ _ c.in-End.ensures)

pub durs-loop-out-preserved-in-Word : goal.durs-loop-out-preserved-in-Word
durs-loop-out-preserved-in-Word t c = record {
  above = omega arith;
  whole = skipped durs _ _ _ _ c.loop-out.invariant.whole (durs-word _ _ _ c.in-Word.ensures.here);
}

pub durs-loop-out-preserved : goal.durs-loop-out-preserved
durs-loop-out-preserved t c = record {
  above = omega (arith, c.in-List.ensures.later);
  whole = pushed durs _ _ _ _ _ _ c.loop-out.invariant.whole (durs-list _ _ _ _ c.in-List.ensures.here)
      (c.in_ok-push-in-List.ensures.ok ∙ ap (λ x. c.loop-out.out ++ x ∷ []) c.in_ok-dur_tree-in-List.ensures);
}

pub dur_by-returns-in_ok-durs-in-And : goal.dur_by-returns-in_ok-durs-in-And
dur_by-returns-in_ok-durs-in-And t c = at_head (λ h. dur_by h c.args.place (durs (content_at c.args.forms.now c.args.from)) (dur_tree (behind (content_at c.args.forms.now c.args.from))) (content_at c.args.forms.now c.args.from)) c.in-And.is (ap (dur.And c.args.place) c.in_ok-durs-in-And.ensures)
