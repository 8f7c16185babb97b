use Rattle.sexpr_text.proofs.Joining.{joins_set}
use Rattle.sexpr_text.proofs.forms.join.Goals as goal

pub returns : goal.returns
returns c = joins_set _ _ _ _ _ c.requires.order c.requires.within
