use Rattle.std.proofs.Common.{◌∙◌}
use Rattle.pddl_forms.proofs.Least.{least_with-all}
use Rattle.pddl_forms.proofs.forms.least_of_metric.Goals as goal

pub returns : goal.returns
returns c = c.least_of_some_metric.ensures ∙ least_with-all _
