use Rattle.pddl_terms.proofs.Building.{answered, cmp_tree-none, cmp_tree-empty, cmp_tree-by}
use Rattle.pddl_terms.proofs.conditions.+comparisons.Goals as goal

pub cmp_tree-returns-in-NoList : goal.cmp_tree-returns-in-NoList
cmp_tree-returns-in-NoList t c = cmp_tree-none _ c.in-NoList.ensures

pub cmp_tree-returns-in-NoWord : goal.cmp_tree-returns-in-NoWord
cmp_tree-returns-in-NoWord t c = cmp_tree-empty _ _ _ _ c.in-NoWord.ensures.list c.in-NoWord.ensures.no_word

pub cmp_tree-returns-in-Word : goal.cmp_tree-returns-in-Word
cmp_tree-returns-in-Word t c = answered _ (cmp_tree-by _ _ _ _ _ _ c.cond_head-head.ensures c.word_bytes.ensures c.in-Word.ensures.list) c.cmp_by.ensures
