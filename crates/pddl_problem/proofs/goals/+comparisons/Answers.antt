use Rattle.std.proofs.Common.{◌∙◌, sym}
use Rattle.pddl_problem.proofs.Building.{is_comparison-none, is_comparison-empty, is_comparison-by}
use Rattle.pddl_problem.proofs.goals.+comparisons.Goals as goal

pub is_comparison-returns-in-NoList : goal.is_comparison-returns-in-NoList
is_comparison-returns-in-NoList t c = sym (is_comparison-none _ c.in-NoList.ensures)

pub is_comparison-returns-in-NoWord : goal.is_comparison-returns-in-NoWord
is_comparison-returns-in-NoWord t c = sym (is_comparison-empty _ _ _ _ c.in-NoWord.ensures.list c.in-NoWord.ensures.no_word)

pub is_comparison-returns-in-Word : goal.is_comparison-returns-in-Word
is_comparison-returns-in-Word t c = c.compares_by.ensures ∙ sym (is_comparison-by _ _ _ _ _ _ c.soft_head.ensures c.word_bytes.ensures c.in-Word.ensures.list)
