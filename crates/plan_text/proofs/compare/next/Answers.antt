use Rattle.plan_text.proofs.Comparing.{next_value}
use Rattle.plan_text.proofs.compare.next.Goals as goal

pub returns-clause-value : goal.returns-clause-value
returns-clause-value c = next_value _ _ _ _ _ _ c.requires.near c.requires.p c.requires.q c.requires.a c.requires.b
