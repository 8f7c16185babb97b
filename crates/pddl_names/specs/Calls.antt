-- Believed: what is wrong with a name, a type, a list of variables, a term, and a predicate or function with its terms.
use Rattle.std.specs.Prelude.{ℕ, Bool, ◌||◌, if◌then◌else◌, nat_eq, List, [], ◌∷◌, ◌++◌, length, is_some, unwrap_or}
use Rattle.std.specs.List.{flat_map}
use Rattle.std.specs.Option.{option_map_or}
use Rattle.std.specs.Str.{bytes_eq}
use Rattle.pddl_terms.specs.declared.faults.Kind.TheVariants as kind
use Rattle.pddl_terms.specs.declared.trees.Name.{Name}
use Rattle.pddl_terms.specs.declared.trees.Term.{Term}
use Rattle.pddl_terms.specs.declared.trees.Term.TheVariants as term
use Rattle.pddl_terms.specs.declared.trees.Atom.{Atom}
use Rattle.pddl_terms.specs.declared.trees.TypeName.{TypeName}
use Rattle.pddl_terms.specs.declared.trees.TypeName.TheVariants as type
use Rattle.pddl_terms.specs.declared.trees.Group.{Group}
use Rattle.pddl_names.specs.declared.offences.Offence.{Offence}
use Rattle.pddl_names.specs.declared.offences.Phase.{Phase}
use Rattle.pddl_names.specs.declared.offences.Phase.TheVariants as phase
use Rattle.pddl_names.specs.declared.declarations.Tables.{Tables}
use Rattle.pddl_names.specs.Declarations.{Text, Typed, Signature, object_word, typed, value_of, among, with_new, with_firsts}
use Rattle.pddl_names.specs.Fitting.{fits}
use Rattle.pddl_names.specs.Offences.{offence}

-- ---- names

-- a name that isn't declared
abbrev pub undeclared : Bool → Name → List Offence
undeclared known n = if known then [] else offence kind.Name n.at ∷ []

-- what is asked of names alone
abbrev pub in_names : Phase → List Offence → List Offence
in_names phase.Names offences = offences
in_names phase.Types offences = []

-- each name that stood before: among these, or earlier in the list
abbrev pub doubles : List Text → List Name → List Offence
doubles seen [] = []
doubles seen (n ∷ more) = (if among seen n.bytes then offence kind.Double n.at ∷ [] else []) ++ doubles (with_new seen (n.bytes ∷ [])) more

-- the names of a typed list
abbrev pub names_of : List Group → List Name
names_of groups = flat_map (λ g. g.names) groups

-- ---- types

-- whether a type is declared; `object` always is
abbrev pub is_type : Tables → Text → Bool
is_type w t = bytes_eq t object_word || is_some (value_of w.types t)

abbrev pub type_offences : Tables → TypeName → List Offence
type_offences w type.Object = []
type_offences w (type.Named n) = undeclared (is_type w n.bytes) n
type_offences w (type.LeftOut at) = []

-- the types in a typed list
abbrev pub types_offences : Tables → List Group → List Offence
types_offences w groups = flat_map (λ g. type_offences w g.of) groups

-- a list of variables: their types, and those that stand in it twice
abbrev pub variables_offences : Phase → Tables → List Group → List Offence
variables_offences p w groups = in_names p (types_offences w groups ++ doubles [] (names_of groups))

-- the variables in scope below a list of variables, with their types, inner ones first: an inner variable hides an outer one
abbrev pub bind : List Group → List Typed → List Typed
bind groups scope = with_firsts [] (typed groups) ++ scope

-- ---- terms

-- an object that isn't declared, or a variable out of scope
abbrev pub term_offences : Tables → List Typed → Term → List Offence
term_offences w scope (term.Object n) = undeclared (is_some (value_of w.objects n.bytes)) n
term_offences w scope (term.Variable n) = undeclared (is_some (value_of scope n.bytes)) n

abbrev pub term_at : Term → ℕ
term_at (term.Object n) = n.at
term_at (term.Variable n) = n.at

abbrev pub term_sort : Tables → List Typed → Term → Text
term_sort w scope (term.Object n) = unwrap_or (value_of w.objects n.bytes) []
term_sort w scope (term.Variable n) = unwrap_or (value_of scope n.bytes) []

-- the terms that don't fit the types of the parameters, place by place
unfoldable pub misfits : Tables → List Typed → List Term → List Text → List Offence
misfits w scope (t ∷ terms) (s ∷ sorts) = (if fits w.types (term_sort w scope t) s then [] else offence kind.Sort (term_at t) ∷ []) ++ misfits w scope terms sorts
misfits w scope terms sorts = []

-- ---- predicates and functions with their terms

-- a wrong number of terms, or those that don't fit
abbrev pub sorts_offences : Tables → List Typed → ℕ → List Term → List Text → List Offence
sorts_offences w scope at terms sorts = if nat_eq (length terms) (length sorts) then misfits w scope terms sorts else offence kind.Arity at ∷ []

-- A predicate or function that isn't declared, and its terms; or a wrong number of them, else those that don't fit.
unfoldable pub call_offences : Phase → Tables → List Signature → List Typed → ℕ → Name → List Term → List Offence
call_offences phase.Names w declared scope at n terms = undeclared (is_some (value_of declared n.bytes)) n ++ flat_map (term_offences w scope) terms
call_offences phase.Types w declared scope at n terms =
    option_map_or (sorts_offences w scope at terms) (value_of declared n.bytes) []

abbrev pub atom_offences : Phase → Tables → List Typed → Atom → List Offence
atom_offences p w scope a = call_offences p w w.predicates scope a.at a.name a.terms

abbrev pub fluent_offences : Phase → Tables → List Typed → Atom → List Offence
fluent_offences p w scope a = call_offences p w w.functions scope a.at a.name a.terms
