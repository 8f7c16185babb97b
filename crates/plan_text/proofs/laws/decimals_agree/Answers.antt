use Rattle.plan_text.proofs.Decimals.{agrees}
use Rattle.plan_text.proofs.laws.decimals_agree.Goals as goal

pub returns : goal.returns
returns _ = agrees
