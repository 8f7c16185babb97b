use Rattle.std.proofs.Common.{◌∙◌, ap}
use Rattle.pddl_terms.proofs.Building.{answered}
use Rattle.pddl_problem.specs.Problems.{problem_of}
use Rattle.pddl_problem.proofs.Building.{problem_tree-end, problem_tree-word, problem_tree-list}
use Rattle.pddl_problem.proofs.problems.problem_tree.Goals as goal

pub returns-in-List : goal.returns-in-List
returns-in-List c = answered _ (ap problem_of c.next.ensures.behind ∙ problem_tree-list _ _ _ _ c.in-List.ensures.here) c.problem_of.ensures

pub returns-in-End : goal.returns-in-End
returns-in-End c = answered _ (problem_tree-end _ _ c.in-End.ensures) c.problem_of-in-End.ensures

pub returns-in-Word : goal.returns-in-Word
returns-in-Word c = answered _ (problem_tree-word _ _ _ c.in-Word.ensures.here) c.problem_of-in-Word.ensures
