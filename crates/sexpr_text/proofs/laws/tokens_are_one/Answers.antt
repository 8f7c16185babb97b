use Rattle.sexpr_text.proofs.Unique.{one_list}
use Rattle.sexpr_text.proofs.laws.tokens_are_one.Goals as goal

pub returns : goal.returns
returns c = one_list
