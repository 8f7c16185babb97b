use Rattle.pddl_domain.specs.Domains.{wrong_domain, domain_told}
use Rattle.pddl_domain.specs.Readings.{domain_refusal}
use Rattle.pddl_domain.proofs.Joining.{one_tree, one_fault, no_fault}
use Rattle.pddl_domain.proofs.laws.a_text_is_one_domain.Goals as goal

pub returns-clause-tree : goal.returns-clause-tree
returns-clause-tree c = one_tree wrong_domain domain_told domain_refusal

pub returns-clause-fault : goal.returns-clause-fault
returns-clause-fault c = one_fault wrong_domain domain_told domain_refusal

pub returns-clause-apart : goal.returns-clause-apart
returns-clause-apart c = no_fault wrong_domain domain_told domain_refusal
