use Rattle.plan_validator.proofs.OneAnswer.{one_answer}
use Rattle.plan_validator.proofs.laws.one_answer.Goals as goal

pub returns : goal.returns
returns c = one_answer
