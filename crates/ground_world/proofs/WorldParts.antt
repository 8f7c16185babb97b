-- The world that tables say, part by part.
use Rattle.std.proofs.Common.{◌≡◌, refl, sym, ap, ap₂, subst, ◌∙◌, ℕ, Bool, false, not, nat_eq, List, [], map, Option, None, is_some, slice_get}
use Rattle.std.specs.List.{flat_map, filter}
use Rattle.std.proofs.Math.Path.{fun_ext}
use Rattle.rational.specs.Rational.{ℚ}
use Rattle.pddl_terms.specs.declared.files.Domain.{Domain}
use Rattle.pddl_terms.specs.declared.files.Problem.{Problem}
use Rattle.pddl_terms.specs.declared.files.InitEntry.{InitEntry}
use Rattle.pddl_names.specs.Declarations.{Text, among, value_of, with_new, with_firsts}
use Rattle.ground_world.specs.World.{World, GroundAtom, number_in}
use Rattle.ground_world.specs.FirstState.{types_of, objects_of, signatures_of, names_of, places_fitting, changed_predicates, changed_functions, no_place_in, held_atom, given_value, all_atoms, declared_world, world}
use Rattle.ground_world.specs.Building.{Lists, is_changing, IsSortedOut}
use Rattle.ground_world.proofs.FirstDeclared.{at_place, value_of-firsts}
use Rattle.ground_world.proofs.FluentOrder.{among-new, column-sorted, fluents-are}

abbrev pub made : List Text → List Text → List Text → (Text → List ℕ) → (ℕ → Bool) → (ℕ → Bool) → (GroundAtom → Bool) → (GroundAtom → Option ℚ) → List GroundAtom → World
made objects predicates functions fitting static static_function held value fluents = record {
  objects = objects;
  predicates = predicates;
  functions = functions;
  fitting = fitting;
  is_static = static;
  is_static_function = static_function;
  is_held = held;
  value_of = value;
  fluents = fluents;
}

-- what is declared
pub declared-is : (d : Domain) (p : Problem) (objects predicates functions : List Text) (fitting : Text → List ℕ) (static static_function : ℕ → Bool)
    → objects ≡ names_of (objects_of d p) → predicates ≡ names_of (signatures_of d.predicates) → functions ≡ names_of (signatures_of d.functions)
    → ((s : Text) → fitting s ≡ places_fitting (types_of d) (objects_of d p) s)
    → ((q : ℕ) → static q ≡ no_place_in predicates (changed_predicates d p) q)
    → ((q : ℕ) → static_function q ≡ no_place_in functions (changed_functions d) q)
    → made objects predicates functions fitting static static_function (λ a. false) (λ f. None) [] ≡ declared_world d p
declared-is d p objects predicates functions fitting static static_function o q f fits s t =
    ap (λ x. made x predicates functions fitting static static_function (λ a. false) (λ f. None) []) o
    ∙ ap (λ x. made (names_of (objects_of d p)) predicates functions x static static_function (λ a. false) (λ f. None) []) (fun_ext fits)
    ∙ ap₂ (λ x y. made (names_of (objects_of d p)) predicates functions (places_fitting (types_of d) (objects_of d p)) x y (λ a. false) (λ f. None) []) (fun_ext s) (fun_ext t)
    ∙ ap₂ (λ x y. made (names_of (objects_of d p)) x y (places_fitting (types_of d) (objects_of d p)) (no_place_in x (changed_predicates d p)) (no_place_in y (changed_functions d)) (λ a. false) (λ f. None) []) q f

-- tables with nothing known of the first state
pub declared-tables-are : (d : Domain) (p : Problem) (objects predicates functions : List Text) (fitting : Text → List ℕ) (static static_function : ℕ → Bool)
    (held given fluents : List GroundAtom) (values : List ℚ) → held ≡ [] → given ≡ [] → fluents ≡ [] → values ≡ []
    → objects ≡ names_of (objects_of d p) → predicates ≡ names_of (signatures_of d.predicates) → functions ≡ names_of (signatures_of d.functions)
    → ((s : Text) → fitting s ≡ places_fitting (types_of d) (objects_of d p) s)
    → ((q : ℕ) → static q ≡ no_place_in predicates (changed_predicates d p) q)
    → ((q : ℕ) → static_function q ≡ no_place_in functions (changed_functions d) q)
    → made objects predicates functions fitting static static_function (among held) (λ f. slice_get values (number_in given f)) fluents ≡ declared_world d p
declared-tables-are d p objects predicates functions fitting static static_function held given fluents values h g l v o q f fits s t =
    ap₂ (λ (hs ls : List GroundAtom). made objects predicates functions fitting static static_function (among hs) (λ f. slice_get values (number_in given f)) ls) h l
    ∙ ap₂ (λ (vs : List ℚ) (gs : List GroundAtom). made objects predicates functions fitting static static_function (λ a. false) (λ f. slice_get vs (number_in gs f)) []) v g
    ∙ declared-is d p objects predicates functions fitting static static_function o q f fits s t

-- what is known of the first state
known-state : (d : Domain) (p : Problem) (held given fluents : List GroundAtom) (values : List ℚ) (sorts : List (List Text))
    → held ≡ with_new [] (flat_map (held_atom (declared_world d p)) p.init)
    → Lists given values (with_firsts [] (flat_map (given_value (declared_world d p)) p.init))
    → sorts ≡ map (λ e. e.1) (signatures_of d.functions)
    → IsSortedOut (is_changing (declared_world d p) sorts) given fluents
    → record (declared_world d p) { is_held = among held; value_of = λ f. slice_get values (number_in given f); fluents = fluents } ≡ world d p
unfolding world
known-state d p held given fluents values sorts h v s o =
    let w = declared_world d p in
    let first = flat_map (given_value w) p.init in
    let here : (a : GroundAtom) → among held a ≡ among (flat_map (held_atom w) p.init) a = λ a. ap (λ (l : List GroundAtom). among l a) h ∙ among-new (flat_map (held_atom w) p.init) a in
    let value : (f : GroundAtom) → slice_get values (number_in given f) ≡ value_of first f =
    λ f. ap₂ (λ (vs : List ℚ) (gs : List GroundAtom). slice_get vs (number_in gs f)) v.1 v.0 ∙ at_place (with_firsts [] first) f ∙ value_of-firsts [] first f in
    let all : fluents ≡ filter (λ f. is_some (value_of first f)) (all_atoms w (λ f. not (w.is_static_function f)) d.functions) =
    fluents-are w d.functions sorts first given fluents (λ t. column-sorted (types_of d) (objects_of d p) t) s v.0 o in
    ap₂ (λ (a : GroundAtom → Bool) (b : GroundAtom → Option ℚ). record w { is_held = a; value_of = b; fluents = fluents }) (fun_ext here) (fun_ext value)
    ∙ ap (λ (l : List GroundAtom). record w { is_held = among (flat_map (held_atom w) p.init); value_of = value_of first; fluents = l }) all

pub first_state-is : (d : Domain) (p : Problem) (w : World) (held given fluents : List GroundAtom) (values : List ℚ) (sorts : List (List Text)) (entries : List InitEntry)
    → w ≡ declared_world d p → entries ≡ p.init
    → held ≡ with_new [] (flat_map (held_atom w) entries)
    → Lists given values (with_firsts [] (flat_map (given_value w) entries))
    → sorts ≡ map (λ e. e.1) (signatures_of d.functions)
    → IsSortedOut (is_changing w sorts) given fluents
    → record w { is_held = among held; value_of = λ f. slice_get values (number_in given f); fluents = fluents } ≡ world d p
first_state-is d p w held given fluents values sorts entries e i h v s o =
    ap (λ (x : World). record x { is_held = among held; value_of = λ f. slice_get values (number_in given f); fluents = fluents }) e
    ∙ known-state d p held given fluents values sorts
    (h ∙ ap₂ (λ (x : World) (l : List InitEntry). with_new [] (flat_map (held_atom x) l)) e i)
    (subst (λ (l : List (GroundAtom × ℚ)). Lists given values (with_firsts [] l)) (ap₂ (λ (x : World) (l : List InitEntry). flat_map (given_value x) l) e i) v)
    s
    (subst (λ (x : World). IsSortedOut (is_changing x sorts) given fluents) e o)
