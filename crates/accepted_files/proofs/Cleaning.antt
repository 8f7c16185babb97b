-- In a domain and a problem that their readers accept no phase finds an offence.
use Rattle.std.proofs.Common.{◌≡◌, ℕ, List, [], ◌∷◌, All}
use Rattle.std.proofs.lemmas.List.Elements.{All-head, All-tail}
use Rattle.basics.proofs.Lists.{nothing_left, nothing_right}
use Rattle.pddl_terms.specs.declared.faults.Kind.TheVariants as kind
use Rattle.pddl_terms.specs.declared.files.Domain.{Domain}
use Rattle.pddl_terms.specs.declared.files.Problem.{Problem}
use Rattle.pddl_names.specs.declared.offences.Offence.{Offence}
use Rattle.pddl_names.specs.Offences.{offence}
use Rattle.pddl_names.specs.Files.{problem_name_offences, problem_type_offences}
use Rattle.pddl_forms.specs.Forms.{problem_forms}
use Rattle.pddl_forms.specs.Limits.{problem_limits}
use Rattle.metric_sign.specs.Signs.{metric_sign_offences}
use Rattle.pddl_domain.proofs.Accepting.{nothing_found, has_no_offence}
use Rattle.pddl_domain.proofs.FirstPhase.{first_phase_counts}
use Rattle.pddl_problem.specs.Readings.{form_offences, problem_offence, IsProblem}
use Rattle.accepted_files.specs.Laws.{AcceptedFilesAreClean}

abbrev IsRight : List Offence → Type 0
IsRight phase = phase ≡ []

-- nothing is wrong with the names, types, forms and limits of a problem, nor with the signs of its metric
record IsRightProblem (d : Domain) (p : Problem) : Type 0 where
  names : problem_name_offences d p ≡ []
  types : problem_type_offences d p ≡ []
  forms : problem_forms d p ≡ []
  signs : metric_sign_offences d p ≡ []
  limits : problem_limits d p ≡ []

module _ (d : Domain) (text : List ℕ) (p : Problem) (f : IsProblem d text p) where
  abbrev LimitsOn : List (List Offence)
  LimitsOn = problem_limits d p ∷ []

  abbrev FormsOn : List (List Offence)
  FormsOn = form_offences d p ∷ LimitsOn

  abbrev TypesOn : List (List Offence)
  TypesOn = problem_type_offences d p ∷ FormsOn

  all_right : All IsRight (problem_name_offences d p ∷ TypesOn)
  unfolding problem_offence
  all_right = (first_phase_counts (problem_name_offences d p ∷ TypesOn) (offence kind.Name 0)).none.0 (nothing_found (problem_offence d p) f.right)

  behind_names : All IsRight TypesOn
  behind_names = All-tail IsRight (problem_name_offences d p) TypesOn all_right

  behind_types : All IsRight FormsOn
  behind_types = All-tail IsRight (problem_type_offences d p) FormsOn behind_names

  right_forms : form_offences d p ≡ []
  right_forms = All-head IsRight (form_offences d p) LimitsOn behind_types

  problem_right : IsRightProblem d p
  problem_right = record {
    names = All-head IsRight (problem_name_offences d p) TypesOn all_right;
    types = All-head IsRight (problem_type_offences d p) FormsOn behind_names;
    forms = nothing_left (problem_forms d p) (metric_sign_offences d p) right_forms;
    signs = nothing_right (problem_forms d p) (metric_sign_offences d p) right_forms;
    limits = All-head IsRight (problem_limits d p) [] (All-tail IsRight (form_offences d p) LimitsOn behind_types);
  }

  pub signs_right : metric_sign_offences d p ≡ []
  signs_right = problem_right.signs

pub files_clean : AcceptedFilesAreClean
files_clean domain problem d p f g =
    let own = has_no_offence domain d f in
    let right : IsRightProblem d p = problem_right d problem p g in
    record {
      domain_names = own.names;
      domain_types = own.types;
      domain_forms = own.forms;
      domain_limits = own.limits;
      problem_names = right.names;
      problem_types = right.types;
      problem_forms = right.forms;
      problem_limits = right.limits;
    }
