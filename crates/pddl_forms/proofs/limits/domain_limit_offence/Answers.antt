use Rattle.std.proofs.Common.{◌∙◌}
use Rattle.pddl_forms.proofs.Least.{least_with-all}
use Rattle.pddl_forms.proofs.limits.domain_limit_offence.Goals as goal

pub returns : goal.returns
returns c = c.least_of_domain.ensures ∙ least_with-all _
