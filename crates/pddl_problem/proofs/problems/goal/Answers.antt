use Rattle.std.proofs.Common.{ap}
use Rattle.pddl_terms.proofs.Sectioning.{of_found}
use Rattle.pddl_problem.specs.Problems.{goal_of}
use Rattle.pddl_problem.proofs.problems.goal.Goals as goal

pub returns-in-None : goal.returns-in-None
returns-in-None c = ap goal_of c.in-None.ensures

pub returns-in-Some : goal.returns-in-Some
returns-in-Some c = of_found goal_of _ c.in-Some.ensures c.goal_tree.ensures
