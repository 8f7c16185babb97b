use Rattle.plan_files.proofs.WordsIn.{says-one}
use Rattle.plan_files.proofs.laws.words_are_one.Goals as goal

pub returns : goal.returns
returns c = says-one
