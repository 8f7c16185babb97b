use Rattle.pddl_domain.proofs.Accepting.{has_no_offence, declares_once, binds_once, well_called}
use Rattle.pddl_domain.proofs.Sizes.{is_no_longer}
use Rattle.pddl_domain.proofs.laws.accepted_domains_keep_to.Goals as goal

pub returns-clause-offences : goal.returns-clause-offences
returns-clause-offences c = has_no_offence

pub returns-clause-lengths : goal.returns-clause-lengths
returns-clause-lengths c = is_no_longer

pub returns-clause-once : goal.returns-clause-once
returns-clause-once c = declares_once

pub returns-clause-variables : goal.returns-clause-variables
returns-clause-variables c = binds_once

pub returns-clause-calls : goal.returns-clause-calls
returns-clause-calls c = λ w declared scope. well_called w scope declared
