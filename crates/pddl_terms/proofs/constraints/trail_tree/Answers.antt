use Rattle.pddl_terms.proofs.Building.{answered, trail_tree-none, trail_tree-empty, trail_tree-by}
use Rattle.pddl_terms.proofs.constraints.trail_tree.Goals as goal

pub returns-in-NoList : goal.returns-in-NoList
returns-in-NoList c = trail_tree-none _ c.in-NoList.ensures

pub returns-in-NoWord : goal.returns-in-NoWord
returns-in-NoWord c = trail_tree-empty _ _ _ _ c.in-NoWord.ensures.list c.in-NoWord.ensures.no_word

pub returns-in-Word : goal.returns-in-Word
returns-in-Word c = answered _ (trail_tree-by _ _ _ _ _ _ c.con_head-head.ensures c.word_bytes.ensures c.in-Word.ensures.list) c.trail_of.ensures
