use Rattle.std.proofs.Common.{◌∙◌, ap}
use Rattle.pddl_terms.specs.Sections.{names_of}
use Rattle.pddl_terms.proofs.Sectioning.{of_found}
use Rattle.pddl_terms.proofs.sections.names_of.Goals as goal

pub returns-in-None : goal.returns-in-None
returns-in-None c = c.new.ensures ∙ ap names_of c.in-None.ensures

pub returns-in-Some : goal.returns-in-Some
returns-in-Some c = of_found names_of _ c.in-Some.ensures c.names.ensures
