use Rattle.std.proofs.Common.{◌∙◌, ap}
use Rattle.pddl_terms.proofs.Sectioning.{of_found}
use Rattle.pddl_problem.specs.Entries.{entries_of}
use Rattle.pddl_problem.proofs.entries.init.Goals as goal

pub returns-in-None : goal.returns-in-None
returns-in-None c = c.new.ensures ∙ ap entries_of c.in-None.ensures

pub returns-in-Some : goal.returns-in-Some
returns-in-Some c = of_found entries_of _ c.in-Some.ensures c.entries.ensures
