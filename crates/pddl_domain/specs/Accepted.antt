-- Believed: what domains that are accepted keep to, for those that build on them.
use Rattle.std.specs.Prelude.{◌≡◌, ◌≤◌, length, true, ℕ, List, [], ◌∷◌, map, Some}
use Rattle.pddl_terms.specs.declared.files.Domain.{Domain}
use Rattle.pddl_terms.specs.declared.trees.Group.{Group}
use Rattle.pddl_terms.specs.declared.trees.Name.{Name}
use Rattle.pddl_terms.specs.declared.trees.Term.{Term}
use Rattle.pddl_names.specs.declared.declarations.Tables.{Tables}
use Rattle.pddl_names.specs.declared.offences.Phase.TheVariants.{Names, Types}
use Rattle.pddl_names.specs.Calls.{names_of, term_sort, term_offences, types_offences, variables_offences, call_offences}
use Rattle.pddl_names.specs.Declarations.{Text, Typed, Signature, typed, declared_types, declared_predicates, declared_functions, with_new, with_firsts, value_of}
use Rattle.pddl_names.specs.Files.{name_offences, type_offences_of}
use Rattle.pddl_names.specs.Fitting.{fits}
use Rattle.pddl_forms.specs.Forms.{domain_forms}
use Rattle.pddl_forms.specs.Limits.{domain_limits}
use Rattle.pddl_domain.specs.Readings.{IsDomain}

-- Nothing is wrong in any phase.
pub record HasNoOffence (d : Domain) : Type 0 where
  pub names : name_offences d ≡ []
  pub types : type_offences_of d ≡ []
  pub forms : domain_forms d ≡ []
  pub limits : domain_limits d ≡ []

abbrev pub DomainsHaveNoOffence : Type 0
DomainsHaveNoOffence = (text : List ℕ) (d : Domain) → IsDomain text d → HasNoOffence d

-- A text has at least as many bytes as a domain has types, constants, predicates, functions or actions.
pub record IsNoLonger (d : Domain) (bytes : ℕ) : Type 0 where
  pub types : length (names_of d.types) ≤ bytes
  pub constants : length (names_of d.constants) ≤ bytes
  pub predicates : length d.predicates ≤ bytes
  pub functions : length d.functions ≤ bytes
  pub actions : length d.actions ≤ bytes

abbrev pub DomainsAreNoLonger : Type 0
DomainsAreNoLonger = (text : List ℕ) (d : Domain) → IsDomain text d → IsNoLonger d (length text)

-- the names of the actions
abbrev pub action_names : Domain → List Text
action_names d = map (λ a. a.name.bytes) d.actions

-- No name is declared twice: what is declared first of each name is all that is declared.
pub record DeclaresOnce (d : Domain) : Type 0 where
  pub types : with_firsts [] (declared_types d) ≡ declared_types d
  pub constants : with_firsts [] (typed d.constants) ≡ typed d.constants
  pub predicates : with_firsts [] (declared_predicates d) ≡ declared_predicates d
  pub functions : with_firsts [] (declared_functions d) ≡ declared_functions d
  pub actions : with_new [] (action_names d) ≡ action_names d

abbrev pub DomainsDeclareOnce : Type 0
DomainsDeclareOnce = (d : Domain) → name_offences d ≡ [] → DeclaresOnce d

-- A list of variables has none twice, and its types are declared.
pub record BindsOnce (w : Tables) (groups : List Group) : Type 0 where
  pub variables : with_firsts [] (typed groups) ≡ typed groups
  pub types : types_offences w groups ≡ []

abbrev pub VariablesAreBoundOnce : Type 0
VariablesAreBoundOnce = (w : Tables) (groups : List Group) → variables_offences Names w groups ≡ [] → BindsOnce w groups

-- The terms are known, as many as the types, and each fits its type.
abbrev pub TermsFit : Tables → List Typed → List Term → List Text → Type 0
TermsFit w scope [] [] = Unit {0}
TermsFit w scope [] (s ∷ sorts) = ⊥
TermsFit w scope (t ∷ terms) [] = ⊥
TermsFit w scope (t ∷ terms) (s ∷ sorts) =
    (term_offences w scope t ≡ []) × (fits w.types (term_sort w scope t) s ≡ true) × TermsFit w scope terms sorts

-- A predicate or a function is declared, and its terms fit its parameters.
pub record IsWellCalled (w : Tables) (declared : List Signature) (scope : List Typed) (name : Text) (terms : List Term) : Type 0 where
  pub sorts : List Text
  pub is_declared : value_of declared name ≡ Some sorts
  pub terms_fit : TermsFit w scope terms sorts

abbrev pub CallsAreWellMade : Type 0
CallsAreWellMade = (w : Tables) (declared : List Signature) (scope : List Typed) (at : ℕ) (n : Name) (terms : List Term)
    → call_offences Names w declared scope at n terms ≡ [] → call_offences Types w declared scope at n terms ≡ []
    → IsWellCalled w declared scope n.bytes terms
