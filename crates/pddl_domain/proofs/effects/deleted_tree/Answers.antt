use Rattle.pddl_terms.proofs.Building.{answered}
use Rattle.pddl_domain.proofs.Building.{deleted_tree-none, deleted_tree-empty, deleted_tree-by}
use Rattle.pddl_domain.proofs.effects.deleted_tree.Goals as goal

pub returns-in-NoList : goal.returns-in-NoList
returns-in-NoList c = deleted_tree-none _ c.in-NoList.ensures

pub returns-in-NoWord : goal.returns-in-NoWord
returns-in-NoWord c = deleted_tree-empty _ _ _ _ c.in-NoWord.ensures.list c.in-NoWord.ensures.no_word

pub returns-in-Word : goal.returns-in-Word
returns-in-Word c = answered _ (deleted_tree-by _ _ _ _ _ _ c.is_left_out_of_effect-left_out.ensures c.word_bytes.ensures c.in-Word.ensures.list) c.call_of.ensures
