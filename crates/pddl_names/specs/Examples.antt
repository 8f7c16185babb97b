-- Believed: small domains and problems, and the first offence of each; each refutes a definition that gets its point wrong.
use Rattle.std.specs.Prelude.{◌≡◌, ℕ, ◌+◌, true, false, List, [], ◌∷◌, Option, Some, None}
use lib.Chars.{codes}
use Rattle.rational.specs.Rational.{zeroℚ}
use Rattle.pddl_terms.specs.declared.faults.Kind.TheVariants as kind
use Rattle.pddl_terms.specs.declared.trees.Name.{Name}
use Rattle.pddl_terms.specs.declared.trees.Term.TheVariants as term
use Rattle.pddl_terms.specs.declared.trees.Atom.{Atom}
use Rattle.pddl_terms.specs.declared.trees.TypeName.TheVariants as type
use Rattle.pddl_terms.specs.declared.trees.Group.{Group}
use Rattle.pddl_terms.specs.declared.trees.Side.TheVariants as side
use Rattle.pddl_terms.specs.declared.trees.Call.TheVariants as call
use Rattle.pddl_terms.specs.declared.trees.ExprTree.TheVariants as expr
use Rattle.pddl_terms.specs.declared.files.Declared.{Declared}
use Rattle.pddl_terms.specs.declared.files.Declared.TheVariants as declared
use Rattle.pddl_terms.specs.declared.files.InitEntry.{InitEntry}
use Rattle.pddl_terms.specs.declared.files.InitEntry.TheVariants as entry
use Rattle.pddl_terms.specs.declared.files.Domain.{Domain}
use Rattle.pddl_names.specs.declared.offences.Offence.{Offence}
use Rattle.pddl_names.specs.declared.offences.Phase.{Phase}
use Rattle.pddl_names.specs.declared.offences.Phase.TheVariants as phase
use Rattle.pddl_names.specs.Declarations.{Text, declared_types}
use Rattle.pddl_names.specs.Equalities.{is_equality}
use Rattle.pddl_names.specs.Fitting.{fits}
use Rattle.pddl_names.specs.Offences.{offence, least}
use Rattle.pddl_names.specs.Files.{domain_tables, name_offences, init_offences}

abbrev pub name : ℕ → Text → Name
name at bytes = record { at = at; bytes = bytes }

abbrev pub of_type : List Name → ℕ → Text → Group
of_type names at t = record { names = names; of = type.Named (name at t) }

abbrev pub plain : List Name → Group
plain names = record { names = names; of = type.Object }

abbrev pub domain_of : List Group → List Group → List Declared → List Declared → Domain
domain_of types constants predicates functions = record {
  name = name 0 (codes "d");
  requirements = [];
  types = types;
  constants = constants;
  predicates = predicates;
  functions = functions;
  constraints = None;
  actions = [];
  left_out = [];
}

-- (:types a a - b): the second `a` comes before `b`, which isn't declared
abbrev pub type_twice : Domain
type_twice = domain_of (of_type (name 8 (codes "a") ∷ name 10 (codes "a") ∷ []) 14 (codes "b") ∷ []) [] [] []

-- (:types object)
abbrev pub object_declared : Domain
object_declared = domain_of (plain (name 8 (codes "object") ∷ []) ∷ []) [] [] []

-- (:constants c - t)
abbrev pub type_unknown : Domain
type_unknown = domain_of [] (of_type (name 12 (codes "c") ∷ []) 16 (codes "t") ∷ []) [] []

-- (:predicates (p ?x ?x) (p))
abbrev pub parameter_twice : Domain
parameter_twice =
    domain_of [] [] (declared.Named 12 (name 13 (codes "p")) (plain (name 15 (codes "?x") ∷ name 18 (codes "?x") ∷ []) ∷ []) ∷ declared.Named 22 (name 23 (codes "p")) [] ∷ []) []

-- (:types a - b b - c c - a d) (:constants k - a l - d) (:predicates (p ?x - c)) (:functions (f ?x - d)): types in a ring
abbrev pub ring : Domain
ring = domain_of
    (of_type (name 1 (codes "a") ∷ []) 2 (codes "b") ∷ of_type (name 3 (codes "b") ∷ []) 4 (codes "c") ∷ of_type (name 5 (codes "c") ∷ []) 6 (codes "a") ∷ plain (name 7 (codes "d") ∷ []) ∷ [])
    (of_type (name 8 (codes "k") ∷ []) 9 (codes "a") ∷ of_type (name 10 (codes "l") ∷ []) 11 (codes "d") ∷ [])
    (declared.Named 12 (name 13 (codes "p")) (of_type (name 14 (codes "?x") ∷ []) 15 (codes "c") ∷ []) ∷ [])
    (declared.Named 16 (name 17 (codes "f")) (of_type (name 18 (codes "?x") ∷ []) 19 (codes "d") ∷ []) ∷ [])

abbrev pub call_of : ℕ → Text → ℕ → Text → Atom
call_of at n term_at t = record { at = at; name = name (at + 1) n; terms = term.Object (name term_at t) ∷ [] }

abbrev pub first_in_init : Phase → List InitEntry → Option Offence
first_in_init p entries = least (init_offences p (domain_tables ring) entries)

pub record ExamplesComeOut : Type 0 where
  pub type_twice_is_double : least (name_offences type_twice) ≡ Some (offence kind.Double 10)
  pub object_is_declared : least (name_offences object_declared) ≡ Some (offence kind.Double 8)
  pub unknown_type_is_name : least (name_offences type_unknown) ≡ Some (offence kind.Name 16)
  pub parameter_twice_is_double : least (name_offences parameter_twice) ≡ Some (offence kind.Double 18)
  pub rings_are_taken : least (name_offences ring) ≡ None
  -- in a ring each type is below each; a type beside it isn't
  pub ring_fits : fits (declared_types ring) (codes "a") (codes "c") ≡ true
  pub ring_fits_back : fits (declared_types ring) (codes "c") (codes "b") ≡ true
  pub apart_does_not_fit : fits (declared_types ring) (codes "d") (codes "a") ≡ false
  pub object_is_not_below : fits (declared_types ring) (codes "object") (codes "a") ≡ false
  pub left_out_fits : fits (declared_types ring) [] (codes "a") ≡ true
  -- (p k): `k` is of type a, which is below c. (p l): it isn't, and (p q): nothing is called q
  pub subtype_taken : first_in_init phase.Types (entry.Holds (call_of 20 (codes "p") 23 (codes "k")) ∷ []) ≡ None
  pub other_type_refused : first_in_init phase.Types (entry.Holds (call_of 20 (codes "p") 23 (codes "l")) ∷ []) ≡ Some (offence kind.Sort 23)
  pub unknown_object : first_in_init phase.Names (entry.Holds (call_of 20 (codes "p") 23 (codes "q")) ∷ []) ≡ Some (offence kind.Name 23)
  pub unknown_predicate : first_in_init phase.Names (entry.Holds (call_of 20 (codes "f") 23 (codes "k")) ∷ []) ≡ Some (offence kind.Name 21)
  -- (p) lacks a term
  pub too_few_terms : first_in_init phase.Types (entry.Holds (record { at = 20; name = name 21 (codes "p"); terms = [] }) ∷ []) ≡ Some (offence kind.Arity 20)
  -- (= (f l) 0) (= (f l) 0): the second fluent
  pub valued_twice :
      first_in_init phase.Names (entry.Value 30 (call.Named (call_of 33 (codes "f") 36 (codes "l"))) zeroℚ ∷ entry.Value 40 (call.Named (call_of 43 (codes "f") 46 (codes "l"))) zeroℚ ∷ [])
      ≡ Some (offence kind.Double 43)
  -- with a function f: (= f c) and (= ?x f) are equalities of terms, (= f f) and (= c (f)) are not
  pub function_and_constant : is_equality (codes "f" ∷ []) (side.Bare (name 3 (codes "f"))) (side.Bare (name 5 (codes "c"))) ≡ true
  pub variable_and_function : is_equality (codes "f" ∷ []) (side.Variable (name 3 (codes "?x"))) (side.Bare (name 6 (codes "f"))) ≡ true
  pub two_functions : is_equality (codes "f" ∷ []) (side.Bare (name 3 (codes "f"))) (side.Bare (name 5 (codes "f"))) ≡ false
  pub constant_and_expression : is_equality (codes "f" ∷ []) (side.Bare (name 3 (codes "c"))) (side.Expression (expr.Duration 5)) ≡ false
