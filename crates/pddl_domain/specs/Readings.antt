-- Believed: what it is to read a domain.
use Rattle.std.specs.Prelude.{ℕ, List, [], ◌∷◌, Option, Result}
use Rattle.pddl_terms.specs.declared.faults.PddlFault.{PddlFault}
use Rattle.pddl_terms.specs.declared.files.Domain.{Domain}
use Rattle.pddl_terms.specs.Files.{IsFile, IsFileFault, ReadsFile}
use Rattle.pddl_domain.specs.Domains.{wrong_domain, domain_told}
use Rattle.pddl_names.specs.declared.offences.Offence.{Offence}
use Rattle.pddl_names.specs.Files.{name_offences, type_offences_of}
use Rattle.pddl_forms.specs.Forms.{domain_forms}
use Rattle.pddl_forms.specs.Limits.{domain_limits}
use Rattle.pddl_domain.specs.Phases.{first_of_phases, refusal_for}

-- a domain's names, the types of its terms, its forms and its limits
unfoldable pub domain_offence : Domain → Option Offence
domain_offence d = first_of_phases (name_offences d ∷ type_offences_of d ∷ domain_forms d ∷ domain_limits d ∷ [])

-- what a domain is refused for, whose shape is right
abbrev pub domain_refusal : Domain → Option PddlFault
domain_refusal d = refusal_for (domain_offence d)

-- the text is a domain, with this tree
abbrev pub IsDomain : List ℕ → Domain → Type 0
IsDomain text d = IsFile wrong_domain domain_told domain_refusal text d

-- the text is no domain: this is wrong before all else
abbrev pub IsDomainFault : List ℕ → PddlFault → Type 0
IsDomainFault text fault = IsFileFault wrong_domain domain_told domain_refusal text fault

-- what a call answers that reads a domain
abbrev pub ReadsDomain : List ℕ → Result Domain PddlFault → Type 0
ReadsDomain text result = ReadsFile wrong_domain domain_told domain_refusal text result
