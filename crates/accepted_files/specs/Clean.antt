-- Believed: a domain and a problem in which no name, type, form or limit is wrong.
use Rattle.std.specs.Prelude.{◌≡◌, not, IsTrue, []}
use Rattle.std.specs.List.{list_all}
use Rattle.pddl_terms.specs.declared.files.Domain.{Domain}
use Rattle.pddl_terms.specs.declared.files.Problem.{Problem}
use Rattle.pddl_names.specs.Declarations.{declared_types}
use Rattle.pddl_names.specs.Fitting.{is_nothing}
use Rattle.pddl_names.specs.Files.{name_offences, type_offences_of, problem_name_offences, problem_type_offences}
use Rattle.pddl_forms.specs.Forms.{domain_forms, problem_forms}
use Rattle.pddl_forms.specs.Limits.{domain_limits, problem_limits}

-- No phase of the readers finds an offence, the signs of a metric aside.
pub record IsClean (d : Domain) (p : Problem) : Type 0 where
  pub domain_names : name_offences d ≡ []
  pub domain_types : type_offences_of d ≡ []
  pub domain_forms : domain_forms d ≡ []
  pub domain_limits : domain_limits d ≡ []
  pub problem_names : problem_name_offences d p ≡ []
  pub problem_types : problem_type_offences d p ≡ []
  pub problem_forms : problem_forms d p ≡ []
  pub problem_limits : problem_limits d p ≡ []

-- each type that is declared has a name with a byte in it, as each name of a text has
abbrev pub TypesAreNamed : Domain → Type 0
TypesAreNamed d = IsTrue (list_all (λ t. not (is_nothing t.0)) (declared_types d))
