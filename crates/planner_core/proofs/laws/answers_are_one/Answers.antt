use Rattle.planner_core.proofs.OneAnswer.{answer_one}
use Rattle.planner_core.proofs.Exact.{answers_told}
use Rattle.planner_core.proofs.laws.answers_are_one.Goals as goal

pub returns-clause-one : goal.returns-clause-one
returns-clause-one _ = answer_one

pub returns-clause-told : goal.returns-clause-told
returns-clause-told _ = answers_told
