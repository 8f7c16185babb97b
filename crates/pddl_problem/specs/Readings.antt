-- Believed: what it is to read a problem of a domain.
use Rattle.std.specs.Prelude.{ℕ, List, [], ◌∷◌, ◌++◌, Option, Result}
use Rattle.pddl_terms.specs.declared.faults.PddlFault.{PddlFault}
use Rattle.pddl_terms.specs.declared.files.Domain.{Domain}
use Rattle.pddl_terms.specs.declared.files.Problem.{Problem}
use Rattle.pddl_terms.specs.Files.{IsFile, IsFileFault, ReadsFile}
use Rattle.pddl_names.specs.declared.offences.Offence.{Offence}
use Rattle.pddl_names.specs.Files.{problem_name_offences, problem_type_offences}
use Rattle.pddl_forms.specs.Forms.{problem_forms}
use Rattle.pddl_forms.specs.Limits.{problem_limits}
use Rattle.metric_sign.specs.Signs.{metric_sign_offences}
use Rattle.pddl_domain.specs.Phases.{first_of_phases, refusal_for}
use Rattle.pddl_problem.specs.Problems.{wrong_problem, problem_told}

-- what is wrong with a problem's forms, the signs in its metric among them
abbrev pub form_offences : Domain → Problem → List Offence
form_offences d p = problem_forms d p ++ metric_sign_offences d p

-- a problem's names, the types of its terms, its forms and its limits
unfoldable pub problem_offence : Domain → Problem → Option Offence
problem_offence d p = first_of_phases (problem_name_offences d p ∷ problem_type_offences d p ∷ form_offences d p ∷ problem_limits d p ∷ [])

-- what a problem of the domain is refused for, whose shape is right
abbrev pub problem_refusal : Domain → Problem → Option PddlFault
problem_refusal d p = refusal_for (problem_offence d p)

-- the text is a problem of the domain, with this tree
abbrev pub IsProblem : Domain → List ℕ → Problem → Type 0
IsProblem d text p = IsFile wrong_problem problem_told (problem_refusal d) text p

-- the text is no problem of the domain: this is wrong before all else
abbrev pub IsProblemFault : Domain → List ℕ → PddlFault → Type 0
IsProblemFault d text fault = IsFileFault wrong_problem problem_told (problem_refusal d) text fault

-- what a call answers that reads a problem of the domain
abbrev pub ReadsProblem : Domain → List ℕ → Result Problem PddlFault → Type 0
ReadsProblem d text result = ReadsFile wrong_problem problem_told (problem_refusal d) text result
