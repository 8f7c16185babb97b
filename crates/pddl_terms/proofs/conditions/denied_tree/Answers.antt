use Rattle.pddl_terms.proofs.Building.{answered, denied_tree-none, denied_tree-empty, denied_tree-by}
use Rattle.pddl_terms.proofs.conditions.denied_tree.Goals as goal

pub returns-in-NoList : goal.returns-in-NoList
returns-in-NoList c = denied_tree-none _ c.in-NoList.ensures

pub returns-in-NoWord : goal.returns-in-NoWord
returns-in-NoWord c = denied_tree-empty _ _ _ _ c.in-NoWord.ensures.list c.in-NoWord.ensures.no_word

pub returns-in-Word : goal.returns-in-Word
returns-in-Word c = answered _ (denied_tree-by _ _ _ _ _ _ c.cond_head-head.ensures c.word_bytes.ensures c.in-Word.ensures.list) c.denied_by.ensures
