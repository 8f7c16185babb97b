use Rattle.std.proofs.Common.{◌∙◌, ap}
use Rattle.pddl_terms.proofs.Sectioning.{of_found}
use Rattle.pddl_domain.specs.Actions.{parameters_of}
use Rattle.pddl_domain.proofs.actions.parameters.Goals as goal

pub returns-in-None : goal.returns-in-None
returns-in-None c = c.new.ensures ∙ ap parameters_of c.in-None.ensures

pub returns-in-Some : goal.returns-in-Some
returns-in-Some c = of_found parameters_of _ c.in-Some.ensures c.variables.ensures
