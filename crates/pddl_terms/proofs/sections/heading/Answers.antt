use Rattle.std.proofs.Common.{◌∙◌, ap}
use Rattle.pddl_terms.specs.Sections.{name_at}
use Rattle.pddl_terms.proofs.Building.{answered}
use Rattle.pddl_terms.proofs.Sectioning.{heading-end, heading-word, heading-list}
use Rattle.pddl_terms.proofs.sections.heading.Goals as goal

pub returns-in-End : goal.returns-in-End
returns-in-End c = c.no_name.ensures ∙ heading-end _ _ c.in-End.ensures

pub returns-in-Word : goal.returns-in-Word
returns-in-Word c = c.no_name-in-Word.ensures ∙ heading-word _ _ _ c.in-Word.ensures.here

pub returns-in-List : goal.returns-in-List
returns-in-List c = answered _ (ap name_at c.next.ensures.behind ∙ heading-list _ _ _ _ c.in-List.ensures.here) c.name_at.ensures
