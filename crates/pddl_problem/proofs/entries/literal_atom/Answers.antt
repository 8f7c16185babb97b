use Rattle.std.proofs.Common.{◌∙◌, sym, ap}
use lib.Chars.{codes}
use Rattle.pddl_terms.specs.Words.{same_word}
use Rattle.pddl_terms.specs.Calls.{call_tree}
use Rattle.pddl_terms.proofs.Building.{answered}
use Rattle.pddl_problem.proofs.Building.{literal_atom-end, literal_atom-word, literal_atom-denied, literal_atom-plain}
use Rattle.pddl_problem.proofs.entries.literal_atom.Goals as goal

pub returns-in-End : goal.returns-in-End
returns-in-End c = literal_atom-end _ _ c.in-End.ensures

pub returns-in-Word : goal.returns-in-Word
returns-in-Word c = literal_atom-word _ _ _ c.in-Word.ensures.here

pub returns-then-same_word : goal.returns-then-same_word
returns-then-same_word c = answered _ (ap call_tree c.next.ensures.behind ∙ literal_atom-denied _ _ _ _ c.in-List.ensures.here (ap (λ w. same_word w (codes "not")) (sym c.word_ahead.ensures) ∙ sym c.same_word.ensures ∙ c.if-same_word.true)) c.call_tree.ensures

pub returns-else-same_word : goal.returns-else-same_word
returns-else-same_word c = answered _ (literal_atom-plain _ _ _ _ c.in-List.ensures.here (ap (λ w. same_word w (codes "not")) (sym c.word_ahead.ensures) ∙ sym c.same_word.ensures ∙ c.if-same_word.false)) c.call_list.ensures
