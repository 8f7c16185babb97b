-- Believed: what a domain and a problem declare: types, constants and objects with their types, predicates and functions with the types of their parameters.
use Rattle.std.specs.Prelude.{ℕ, Bool, if◌then◌else◌, List, [], ◌∷◌, ◌++◌, map, Option, Some, None, is_some}
use Rattle.std.specs.List.{flat_map, list_any}
use Rattle.std.specs.Str.{bytes_eq}
use lib.Chars.{codes}
use Rattle.pddl_terms.specs.declared.trees.Group.{Group}
use Rattle.pddl_terms.specs.declared.trees.TypeName.{TypeName}
use Rattle.pddl_terms.specs.declared.trees.TypeName.TheVariants as type
use Rattle.pddl_terms.specs.declared.files.Declared.{Declared}
use Rattle.pddl_terms.specs.declared.files.Declared.TheVariants as declared
use Rattle.pddl_terms.specs.declared.files.Domain.{Domain}
use Rattle.pddl_terms.specs.declared.files.Problem.{Problem}

-- the bytes of a name
abbrev pub Text : Type 0
Text = List ℕ

-- a name with its type
abbrev pub Typed : Type 0
Typed = Text × Text

-- a predicate or a function with the types of its parameters
abbrev pub Signature : Type 0
Signature = Text × List Text

-- the type above all
abbrev pub object_word : Text
object_word = codes "object"

-- the bytes of a type: none where the type is left out
abbrev pub type_bytes : TypeName → Text
type_bytes type.Object = object_word
type_bytes (type.Named n) = n.bytes
type_bytes (type.LeftOut at) = []

-- the names of a group with their type
abbrev pub typed_of : Group → List Typed
typed_of g = map {B = Typed} (λ n. (n.bytes, type_bytes g.of)) g.names

-- the names of a typed list with their types, in the order of the text
abbrev pub typed : List Group → List Typed
typed groups = flat_map typed_of groups

-- the types of the names of a typed list
abbrev pub sorts_of : List Group → List Text
sorts_of groups = flat_map (λ g. map (λ n. type_bytes g.of) g.names) groups

-- the types that are declared, each with the type above it
abbrev pub declared_types : Domain → List Typed
declared_types d = typed d.types

-- the objects of a problem are the constants of its domain, then its own
abbrev pub declared_objects : Domain → Problem → List Typed
declared_objects d p = typed d.constants ++ typed p.objects

-- a list that is left out declares nothing
abbrev pub signature_of : Declared → List Signature
signature_of (declared.Named at n parameters) = (n.bytes, sorts_of parameters) ∷ []
signature_of (declared.LeftOut at) = []

abbrev pub signatures : List Declared → List Signature
signatures ds = flat_map signature_of ds

abbrev pub declared_predicates : Domain → List Signature
declared_predicates d = signatures d.predicates

abbrev pub declared_functions : Domain → List Signature
declared_functions d = signatures d.functions

-- whether the name is among these
abbrev pub among : List Text → Text → Bool
among names name = list_any (bytes_eq name) names

-- some names, and behind them those that are new, in the order in which they first come
abbrev pub with_new : List Text → List Text → List Text
with_new names [] = names
with_new names (n ∷ more) = with_new (if among names n then names else names ++ (n ∷ [])) more

-- what is declared first of a name, if anything
abbrev pub value_of : {V : Type 0} → List (Text × V) → Text → Option V
value_of [] name = None
value_of (e ∷ es) name = if bytes_eq name e.0 then Some e.1 else value_of es name

-- some declarations, and behind them one more, unless its name is there
abbrev pub with_first : {V : Type 0} → List (Text × V) → Text × V → List (Text × V)
with_first es e = if is_some (value_of es e.0) then es else es ++ (e ∷ [])

-- the first declaration of each name
abbrev pub with_firsts : {V : Type 0} → List (Text × V) → List (Text × V) → List (Text × V)
with_firsts es [] = es
with_firsts es (e ∷ more) = with_firsts (with_first es e) more
