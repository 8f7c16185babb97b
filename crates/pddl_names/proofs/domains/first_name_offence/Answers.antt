use Rattle.std.proofs.Common.{◌∙◌, ap}
use Rattle.pddl_names.specs.declared.offences.Phase.TheVariants as phase
use Rattle.pddl_names.specs.Offences.{least}
use Rattle.pddl_names.specs.Files.{domain_offences}
use Rattle.pddl_names.proofs.domains.first_name_offence.Goals as goal

pub returns : goal.returns
returns c = c.in_ok-first_in_domain.ensures ∙ ap (λ w. least (domain_offences phase.Names w c.args.domain.now)) c.in_ok-tables.ensures
