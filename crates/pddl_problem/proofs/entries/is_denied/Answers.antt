use Rattle.std.proofs.Common.{◌∙◌, sym, ap}
use lib.Chars.{codes}
use Rattle.pddl_terms.specs.Words.{same_word}
use Rattle.pddl_problem.proofs.Building.{is_denied-end, is_denied-word, is_denied-list}
use Rattle.pddl_problem.proofs.entries.is_denied.Goals as goal

pub returns-in-End : goal.returns-in-End
returns-in-End c = sym (is_denied-end _ _ c.in-End.ensures)

pub returns-in-Word : goal.returns-in-Word
returns-in-Word c = sym (is_denied-word _ _ _ c.in-Word.ensures.here)

pub returns-in-List : goal.returns-in-List
returns-in-List c = c.same_word.ensures ∙ ap (λ w. same_word w (codes "not")) c.word_ahead.ensures ∙ is_denied-list _ _ _ _ c.in-List.ensures.here
