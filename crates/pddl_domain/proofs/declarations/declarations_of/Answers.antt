use Rattle.std.proofs.Common.{◌∙◌, ap}
use Rattle.pddl_terms.proofs.Sectioning.{of_found}
use Rattle.pddl_domain.specs.Domains.{declarations_of}
use Rattle.pddl_domain.proofs.declarations.declarations_of.Goals as goal

pub returns-in-None : goal.returns-in-None
returns-in-None c = c.new.ensures ∙ ap declarations_of c.in-None.ensures

pub returns-in-Some : goal.returns-in-Some
returns-in-Some c = of_found declarations_of _ c.in-Some.ensures c.declarations.ensures
