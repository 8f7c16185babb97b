-- Believed: what is static, what holds at first, the fluents and their first values: the world of a domain and a problem.
use Rattle.std.specs.Prelude.{ℕ, Bool, true, false, not, ◌==◌, List, [], ◌∷◌, ◌++◌, map, None, is_some}
use Rattle.std.specs.List.{flat_map, filter, enumerate_from, list_any}
use Rattle.rational.specs.Rational.{ℚ}
use Rattle.pddl_terms.specs.declared.files.Declared.{Declared}
use Rattle.pddl_terms.specs.declared.files.Domain.{Domain}
use Rattle.pddl_terms.specs.declared.files.Problem.{Problem}
use Rattle.pddl_terms.specs.declared.files.InitEntry.{InitEntry}
use Rattle.pddl_terms.specs.declared.files.InitEntry.TheVariants as init
use Rattle.pddl_names.specs.Declarations.{Text, Typed, Signature, among, value_of, with_firsts, declared_types, declared_objects, signatures}
use Rattle.pddl_names.specs.Fitting.{fits}
use Rattle.ground_world.specs.World.{World, place_in, GroundAtom, ground_atom, ground_fluent}
use Rattle.ground_world.specs.Changes.{Change, Adds, Deletes, Moves, Flows, atoms_in, changes}
use Rattle.ground_world.specs.Bindings.{choices}

-- ---- declared names

-- Where a name is declared twice, its first declaration counts.
abbrev pub types_of : Domain → List Typed
types_of d = with_firsts [] (declared_types d)

-- the constants of the domain, then the objects of the problem
abbrev pub objects_of : Domain → Problem → List Typed
objects_of d p = with_firsts [] (declared_objects d p)

abbrev pub signatures_of : List Declared → List Signature
signatures_of ds = with_firsts [] (signatures ds)

-- the names of some declarations, in their order
abbrev pub names_of : {V : Type 0} → List (Text × V) → List Text
names_of es = map (λ e. e.0) es

-- the places of the objects that fit a type, ascending
abbrev pub places_fitting : List Typed → List Typed → Text → List ℕ
places_fitting types objects t = map (λ x. x.0) (filter (λ x. fits types x.1.1 t) (enumerate_from 0 objects))

-- ---- static predicates and functions

abbrev pub changed_predicate : Change → List Text
changed_predicate (Adds a) = a.name.bytes ∷ []
changed_predicate (Deletes a) = a.name.bytes ∷ []
changed_predicate (Moves kind f e) = []
changed_predicate (Flows trend f r) = []

abbrev pub changed_function : Change → List Text
changed_function (Adds a) = []
changed_function (Deletes a) = []
changed_function (Moves kind f e) = f.name.bytes ∷ []
changed_function (Flows trend f r) = f.name.bytes ∷ []

abbrev pub timed_predicate : InitEntry → List Text
timed_predicate (init.Holds a) = []
timed_predicate (init.Not at c) = []
timed_predicate (init.Value at c q) = []
timed_predicate (init.Timed l) = map (λ a. a.name.bytes) (atoms_in l.atom)
timed_predicate (init.LeftOut at) = []

-- the predicates that an effect or a timed literal has, and the functions that an effect changes
abbrev pub changed_predicates : Domain → Problem → List Text
changed_predicates d p = flat_map (λ a. flat_map (λ c. changed_predicate c.part) (changes a)) d.actions
    ++ flat_map timed_predicate p.init

abbrev pub changed_functions : Domain → List Text
changed_functions d = flat_map (λ a. flat_map (λ c. changed_function c.part) (changes a)) d.actions

-- A predicate is static where no effect and no timed literal has it; a function where no effect changes it.
abbrev pub no_place_in : List Text → List Text → ℕ → Bool
no_place_in names changed p = not (list_any (λ n. place_in names n == p) changed)

-- ---- the first state

abbrev pub held_atom : World → InitEntry → List GroundAtom
held_atom w (init.Holds a) = ground_atom w [] a ∷ []
held_atom w (init.Not at c) = []
held_atom w (init.Value at c q) = []
held_atom w (init.Timed l) = []
held_atom w (init.LeftOut at) = []

abbrev pub given_value : World → InitEntry → List (GroundAtom × ℚ)
given_value w (init.Holds a) = []
given_value w (init.Not at c) = []
given_value w (init.Value at c q) = map (λ f. (ground_fluent w [] f, q)) (atoms_in c)
given_value w (init.Timed l) = []
given_value w (init.LeftOut at) = []

-- all bindings of the predicates or functions that pass, in order
abbrev pub all_atoms : World → (ℕ → Bool) → List Declared → List GroundAtom
all_atoms w passes ds = flat_map (λ x. map (λ os. x.0 ∷ os) (choices (map w.fitting x.1.1)))
    (filter (λ x. passes x.0) (enumerate_from 0 (signatures_of ds)))

-- ---- the world of a domain and a problem

-- the declared names and types, as a world in which nothing is known of the first state
abbrev pub declared_world : Domain → Problem → World
declared_world d p = record {
  objects = names_of (objects_of d p);
  predicates = names_of (signatures_of d.predicates);
  functions = names_of (signatures_of d.functions);
  fitting = places_fitting (types_of d) (objects_of d p);
  is_static = no_place_in (names_of (signatures_of d.predicates)) (changed_predicates d p);
  is_static_function = no_place_in (names_of (signatures_of d.functions)) (changed_functions d);
  is_held = λ a. false;
  value_of = λ f. None;
  fluents = [];
}

-- The fluents are the bindings, with an initial value, of the functions that aren't static.
unfoldable pub world : Domain → Problem → World
world d p =
    let w = declared_world d p in
    let held = flat_map (held_atom w) p.init in
    let values = flat_map (given_value w) p.init in
    let changing = all_atoms w (λ f. not (w.is_static_function f)) d.functions in
    record w {
      is_held = among held;
      value_of = value_of values;
      fluents = filter (λ f. is_some (value_of values f)) changing;
    }

abbrev pub has_value : World → GroundAtom → Bool
has_value w f = is_some (w.value_of f)

-- the places of the fluents among some that have no first value
abbrev pub unvalued_places : World → List (ℕ × GroundAtom) → List ℕ
unvalued_places w fs = map (λ f. f.0) (filter (λ f. not (has_value w f.1)) fs)

abbrev pub no_places : List ℕ → Bool
no_places [] = true
no_places (p ∷ ps) = false
