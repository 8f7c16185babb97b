use Rattle.std.proofs.Common.{◌∙◌}
use Rattle.pddl_terms.proofs.Building.{answered}
use Rattle.pddl_terms.proofs.Sectioning.{name_at-end, name_at-word, name_at-list}
use Rattle.pddl_terms.proofs.sections.name_at.Goals as goal

pub returns-in-End : goal.returns-in-End
returns-in-End c = c.no_name.ensures ∙ name_at-end _ _ c.in-End.ensures

pub returns-in-List : goal.returns-in-List
returns-in-List c = c.no_name-in-List.ensures ∙ name_at-list _ _ _ _ c.in-List.ensures.here

pub returns-in-Word : goal.returns-in-Word
returns-in-Word c = answered _ (name_at-word _ _ _ c.in-Word.ensures.here) c.name_of.ensures
