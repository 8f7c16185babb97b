use Rattle.exact_lin.proofs.FormLaws.{constant-value}
use Rattle.exact_lin.proofs.forms.Form.add_constant.Goals as goal

pub returns-clause-value : goal.returns-clause-value
returns-clause-value g c = constant-value _ _ _ _ _ c.self.view_is c.in_ok-self-inside.ensures.1
