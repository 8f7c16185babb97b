-- Believed: what terms and atoms stand for under a binding: objects and ground atoms by their places.
use Rattle.std.specs.Prelude.{ℕ, Bool, if◌then◌else◌, List, [], ◌∷◌, map, Option, Some, None}
use Rattle.std.specs.List.{position_or_len}
use Rattle.std.specs.Str.{bytes_eq}
use Rattle.rational.specs.Rational.{ℚ}
use Rattle.pddl_terms.specs.declared.trees.Group.{Group}
use Rattle.pddl_terms.specs.declared.trees.Term.{Term}
use Rattle.pddl_terms.specs.declared.trees.Term.TheVariants.{Object, Variable}
use Rattle.pddl_terms.specs.declared.trees.Atom.{Atom}
use Rattle.pddl_names.specs.Declarations.{Text, typed, sorts_of}

-- what f makes of the value, or d where there is none
abbrev pub either : {A B : Type 0} → B → (A → B) → Option A → B
either d f None = d
either d f (Some x) = f x

-- ---- the world

-- A ground atom, or a ground fluent, is a list of places: that of its predicate or function among those declared, then
-- those of its arguments among the objects.
abbrev pub GroundAtom : Type 0
GroundAtom = List ℕ

-- All that terms, literals and expressions need of a domain and a problem: the declared names, which objects fit a
-- type, what is static, and the first state.
pub record World : Type 0 where
  pub objects : List Text
  pub predicates : List Text
  pub functions : List Text
  pub fitting : Text → List ℕ
  -- of predicates and of functions, by their places
  pub is_static : ℕ → Bool
  pub is_static_function : ℕ → Bool
  pub is_held : GroundAtom → Bool
  pub value_of : GroundAtom → Option ℚ
  pub fluents : List GroundAtom

-- the place of a name, or the length where it isn't there
abbrev pub place_in : List Text → Text → ℕ
place_in names name = position_or_len (bytes_eq name) names

-- for each variable of a typed list the objects that fit it
abbrev pub columns : World → List Group → List (List ℕ)
columns w vars = map w.fitting (sorts_of vars)

-- the names of the variables of a typed list
abbrev pub variable_names : List Group → List Text
variable_names vars = map (λ v. v.0) (typed vars)

-- ---- bindings

-- A binding gives objects to variables, outer variables first; a later variable hides an earlier one of its name.
abbrev pub Env : Type 0
Env = List (Text × ℕ)

abbrev pub object_at : ℕ → Env → Text → ℕ
object_at found [] name = found
object_at found (b ∷ env) name = object_at (if bytes_eq b.0 name then b.1 else found) env name

-- the object that a variable stands for
abbrev pub bound : Env → Text → ℕ
bound env name = object_at 0 env name

abbrev pub term_object : World → Env → Term → ℕ
term_object w env (Object n) = place_in w.objects n.bytes
term_object w env (Variable n) = bound env n.bytes

-- ---- ground atoms

abbrev pub arguments_at : World → Env → Atom → List ℕ
arguments_at w env a = map (term_object w env) a.terms

abbrev pub ground_atom : World → Env → Atom → GroundAtom
ground_atom w env a = place_in w.predicates a.name.bytes ∷ arguments_at w env a

abbrev pub ground_fluent : World → Env → Atom → GroundAtom
ground_fluent w env f = place_in w.functions f.name.bytes ∷ arguments_at w env f

abbrev pub same_atom : GroundAtom → GroundAtom → Bool
same_atom a b = bytes_eq a b

abbrev pub number_in : List GroundAtom → GroundAtom → ℕ
number_in atoms a = position_or_len (same_atom a) atoms

-- the predicate or function of a ground atom, and its arguments
abbrev pub symbol : GroundAtom → ℕ
symbol [] = 0
symbol (p ∷ args) = p

abbrev pub arguments : GroundAtom → List ℕ
arguments [] = []
arguments (p ∷ args) = args
