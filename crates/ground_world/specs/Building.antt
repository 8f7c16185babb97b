-- Private: what the tables hold on the way.
use Rattle.std.specs.Prelude.{ℕ, ◌≡◌, ◌==◌, ◌&&◌, nat_eq, if◌then◌else◌, Bool, true, false, List, [], ◌∷◌, ◌++◌, map, slice_get}
use Rattle.std.specs.List.{list_any, filter, enumerate_from}
use Rattle.std.specs.List.Sorted.{IsStrictlySortedBy}
use Rattle.std.specs.Ordering.{nat_cmp}
use Rattle.std.specs.Cmp.Lexicographic.{slice_cmp}
use Rattle.std.specs.Str.{bytes_eq}
use Rattle.pddl_terms.specs.declared.trees.Group.{Group}
use Rattle.pddl_names.specs.Declarations.{Text, Typed, object_word, type_bytes}
use Rattle.pddl_names.specs.Fitting.{fits}
use Rattle.ground_world.specs.World.{World, GroundAtom, either, place_in}

-- some names, and at the same places what is declared of each
abbrev pub Lists : {V : Type 0} → List Text → List V → List (Text × V) → Type 0
Lists names values es = (names ≡ map (λ e. e.0) es) × (values ≡ map (λ e. e.1) es)

-- ---- which objects fit a type

-- the places of those that pass
abbrev pub places_passing : (Text → Bool) → List Text → List ℕ
places_passing passes sorts = map (λ x. x.0) (filter (λ x. passes x.1) (enumerate_from 0 sorts))

-- the places of the objects, given by their types, that fit a type
abbrev pub fitting_places : List Typed → List Text → Text → List ℕ
fitting_places types sorts t = places_passing (λ own. fits types own t) sorts

-- a type with the places of the objects that fit it
abbrev pub column_of : List Typed → List Text → Text → Text × List ℕ
column_of types sorts t = (t, fitting_places types sorts t)

-- the types that stand above others
abbrev pub sorts_above : List Group → List Text
sorts_above groups = map (λ g. type_bytes g.of) groups

-- the types that an object can fit: `object`, one that is left out, those of the objects, and those above others
abbrev pub asked_sorts : List Group → List Text → List Text
asked_sorts groups sorts = object_word ∷ [] ∷ (sorts ++ sorts_above groups)

-- ---- what changes

-- Some places are those of names that change.
abbrev pub Marks : List Text → List ℕ → List Text → Type 0
Marks names places changed = (p : ℕ) → list_any (nat_eq p) places ≡ list_any (λ n. place_in names n == p) changed

-- ---- the fluents

-- Each argument is in the column of its parameter, and there are as many as parameters.
abbrev pub fits_columns : List (List ℕ) → List ℕ → Bool
fits_columns [] [] = true
fits_columns [] (o ∷ os) = false
fits_columns (c ∷ cs) [] = false
fits_columns (c ∷ cs) (o ∷ os) = list_any (nat_eq o) c && fits_columns cs os

-- A ground fluent is a binding of a function that changes, where these are the types of the parameters of each function.
abbrev pub is_changing : World → List (List Text) → GroundAtom → Bool
is_changing w functions [] = false
is_changing w functions (f ∷ arguments) = if w.is_static_function f then false
    else either false (λ sorts. fits_columns (map w.fitting sorts) arguments) (slice_get functions f)

-- Those of some lists that pass, in ascending order.
pub record IsSortedOut (passes : List ℕ → Bool) (given out : List (List ℕ)) : Type 0 where
  pub sorted : IsStrictlySortedBy (slice_cmp nat_cmp) out
  pub members : (a : List ℕ) → list_any (bytes_eq a) out ≡ (passes a && list_any (bytes_eq a) given)
