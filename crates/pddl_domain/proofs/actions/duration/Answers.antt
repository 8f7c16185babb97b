use Rattle.std.proofs.Common.{ap}
use Rattle.pddl_terms.proofs.Sectioning.{of_found}
use Rattle.pddl_domain.specs.Actions.{duration_of}
use Rattle.pddl_domain.proofs.actions.duration.Goals as goal

pub returns-in-None : goal.returns-in-None
returns-in-None c = ap duration_of c.in-None.ensures

pub returns-in-Some : goal.returns-in-Some
returns-in-Some c = of_found duration_of _ c.in-Some.ensures c.dur_tree.ensures
