use Rattle.pddl_problem.specs.Problems.{wrong_problem, problem_told}
use Rattle.pddl_problem.specs.Readings.{problem_refusal}
use Rattle.pddl_domain.proofs.Joining.{one_tree, one_fault, no_fault}
use Rattle.pddl_problem.proofs.laws.a_text_is_one_problem.Goals as goal

pub returns-clause-tree : goal.returns-clause-tree
returns-clause-tree c d = one_tree wrong_problem problem_told (problem_refusal d)

pub returns-clause-fault : goal.returns-clause-fault
returns-clause-fault c d = one_fault wrong_problem problem_told (problem_refusal d)

pub returns-clause-apart : goal.returns-clause-apart
returns-clause-apart c d = no_fault wrong_problem problem_told (problem_refusal d)
