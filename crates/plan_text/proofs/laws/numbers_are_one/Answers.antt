use Rattle.plan_text.proofs.ReadingLemmas.{one_number}
use Rattle.plan_text.proofs.laws.numbers_are_one.Goals as goal

pub returns : goal.returns
returns c = one_number
