use Rattle.std.proofs.Common.{◌∙◌, sym}
use Rattle.pddl_terms.proofs.Building.{answered, variables-end, variables-word, variables-list}
use Rattle.pddl_terms.proofs.typed.variables.Goals as goal

pub returns-in-End : goal.returns-in-End
returns-in-End c = c.new.ensures ∙ sym (variables-end _ _ c.in-End.ensures)

pub returns-in-Word : goal.returns-in-Word
returns-in-Word c = c.new-in-Word.ensures ∙ sym (variables-word _ _ _ c.in-Word.ensures.here)

pub returns-in-List : goal.returns-in-List
returns-in-List c = answered _ (sym (variables-list _ _ _ _ c.in-List.ensures.here)) c.groups.ensures
