use Rattle.plan_text.proofs.Spelling.{number_text_spells}
use Rattle.plan_text.proofs.laws.numbers_read_back.Goals as goal

pub returns : goal.returns
returns c = number_text_spells
