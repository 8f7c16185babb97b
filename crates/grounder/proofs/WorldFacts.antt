-- Of an accepted domain and problem: columns are below the objects, and the atoms and fluents of bindings are known.
use Rattle.std.proofs.Common.{◌≡◌, ap, ℕ, ◌≤◌, arith, Bool, true, false, not, ◌==◌, nat_lt, List, map, length}
use Rattle.std.specs.List.{AllByRecursion as Each, flat_map, filter, list_all, enumerate_from}
use Rattle.std.proofs.lemmas.List.{length-map}
use Rattle.std.proofs.lemmas.List.FromFn.{length-enumerate_from}
use Rattle.basics.proofs.Bools.{and_left, and_right, and_in}
use Rattle.basics.proofs.Naturals.{le_in, le_out, same_itself}
use Rattle.basics.proofs.Lists.{all_in, all_out, filter-shorter, each_map}
use Rattle.task_types.specs.WellMade.{is_short, are_below}
use Rattle.pddl_terms.specs.declared.files.Domain.{Domain}
use Rattle.pddl_terms.specs.declared.files.Problem.{Problem}
use Rattle.pddl_names.specs.Declarations.{Text, Typed, Signature, among}
use Rattle.pddl_names.specs.Fitting.{fits}
use Rattle.ground_world.specs.World.{GroundAtom, place_in, symbol, arguments}
use Rattle.ground_world.specs.FirstState.{types_of, objects_of, signatures_of, world, places_fitting, all_atoms, has_value, changed_predicates, changed_functions, given_value}
use Rattle.grounder.specs.Task.{fact_atoms, mentioned_atoms}
use Rattle.grounder.specs.Accepted.{is_binding, IsAccepted}
use Rattle.grounder.proofs.Each.{each_weaker, each_filter, each_number, each_enumerated}
use Rattle.grounder.proofs.Placing.{with_new-keeps, filter-has}
use Rattle.grounder.proofs.Columns.{bound-passes, atoms-below, value-given}
use Rattle.grounder.proofs.Kept.{Within}

-- the places of the objects of a type
pub places-below : (types objects : List Typed) (t : Text) → is_short (map {B = Text} (λ o. o.0) objects) ≡ true
    → are_below (length (map {B = Text} (λ o. o.0) objects)) (places_fitting types objects t) ≡ true
places-below types objects t s = and_in _ _ (le_in (length (places_fitting types objects t)) 1048576 short) (all_in (λ x. nat_lt x (length (map {B = Text} (λ o. o.0) objects))) (places_fitting types objects t) below)
  where
    passing : List (ℕ × Typed)
    passing = filter (λ x. fits types x.1.1 t) (enumerate_from 0 objects)

    many : length (map {B = Text} (λ o. o.0) objects) ≡ length objects
    many = length-map objects (λ o. o.0)

    short : length (places_fitting types objects t) ≤ 1048576
    short =
        let a : length (places_fitting types objects t) ≡ length passing = length-map passing (λ x. x.0) in
        let b : length passing ≤ length (enumerate_from 0 objects) = filter-shorter (λ x. fits types x.1.1 t) (enumerate_from 0 objects) in
        let c : length (enumerate_from 0 objects) ≡ length objects = length-enumerate_from 0 objects in
        let e : length (map {B = Text} (λ o. o.0) objects) ≤ 1048576 = le_out (length (map {B = Text} (λ o. o.0) objects)) 1048576 s in
        let m : length (map {B = Text} (λ o. o.0) objects) ≡ length objects = many in
        omega arith

    below : Each (λ x. nat_lt x (length (map {B = Text} (λ o. o.0) objects)) ≡ true) (places_fitting types objects t)
    below = each_map (λ x. nat_lt x (length (map {B = Text} (λ o. o.0) objects)) ≡ true) (λ x. x.0) passing
        (each_weaker (λ x. (nat_lt x.0 (length (map {B = Text} (λ o. o.0) objects)) ≡ true) × (fits types x.1.1 t ≡ true)) (λ x. nat_lt x.0 (length (map {B = Text} (λ o. o.0) objects)) ≡ true) (λ x h. h.0) passing
        (each_filter (λ x. nat_lt x.0 (length (map {B = Text} (λ o. o.0) objects)) ≡ true) (λ x. fits types x.1.1 t) (enumerate_from 0 objects)
        (each_number 0 (length (map {B = Text} (λ o. o.0) objects)) objects (let m : length (map {B = Text} (λ o. o.0) objects) ≡ length objects = many in omega arith))))

module _ (d : Domain) (p : Problem) where
  pub fitting-below : is_short (world d p).objects ≡ true → (t : Text) → are_below (length (world d p).objects) ((world d p).fitting t) ≡ true
  unfolding world
  fitting-below s t = places-below (types_of d) (objects_of d p) t s

  short-sorts : (passes : ℕ → Bool) (ss : List Signature) → list_all (λ s. is_short s.1) ss ≡ true → Each (λ e. is_short e.1.1 ≡ true) (filter (λ x. passes x.0) (enumerate_from 0 ss))
  short-sorts passes ss h = each_weaker (λ e. (is_short e.1.1 ≡ true) × (passes e.0 ≡ true)) (λ e. is_short e.1.1 ≡ true) (λ e k. k.0) (filter (λ x. passes x.0) (enumerate_from 0 ss))
      (each_filter (λ e. is_short e.1.1 ≡ true) (λ x. passes x.0) (enumerate_from 0 ss) (each_enumerated (λ s. is_short s.1 ≡ true) 0 ss (all_out (λ s. is_short s.1) ss h)))

  module _ (ok : IsAccepted d p) where
    pub objects-short : is_short (world d p).objects ≡ true
    objects-short = and_left _ _ ok.objects

    pub facts-below : (passes : ℕ → Bool) → Each (λ a. are_below (length (world d p).objects) (arguments a) ≡ true) (all_atoms (world d p) passes d.predicates)
    facts-below passes = atoms-below (world d p) (length (world d p).objects) (fitting-below objects-short)
        (filter (λ x. passes x.0) (enumerate_from 0 (signatures_of d.predicates))) (short-sorts passes (signatures_of d.predicates) (and_left _ _ ok.parameters))

    pub functions-below : (passes : ℕ → Bool) → Each (λ a. are_below (length (world d p).objects) (arguments a) ≡ true) (all_atoms (world d p) passes d.functions)
    functions-below passes = atoms-below (world d p) (length (world d p).objects) (fitting-below objects-short)
        (filter (λ x. passes x.0) (enumerate_from 0 (signatures_of d.functions))) (short-sorts passes (signatures_of d.functions) (and_right _ _ ok.parameters))

    -- a binding of a predicate that changes is a fact
    pub fact-known : (a : GroundAtom) → is_binding (world d p) d.predicates a ≡ true → (world d p).is_static (symbol a) ≡ false → among (fact_atoms (world d p) d p) a ≡ true
    unfolding fact_atoms
    fact-known a b s = with_new-keeps (all_atoms (world d p) (λ x. not ((world d p).is_static x)) d.predicates) (mentioned_atoms (world d p) d p) a
        (bound-passes (world d p) (λ x. not ((world d p).is_static x)) (enumerate_from 0 (signatures_of d.predicates)) a (ap not s) b)

    -- a fluent with a first value, of a function that changes, is one of the fluents
    pub fluent-known : (f : GroundAtom) → has_value (world d p) f ≡ true → (world d p).is_static_function (symbol f) ≡ false → among (world d p).fluents f ≡ true
    unfolding world
    fluent-known f h s = filter-has (λ f. has_value (world d p) f) (all_atoms (world d p) (λ x. not ((world d p).is_static_function x)) d.functions) f h
        (bound-passes (world d p) (λ x. not ((world d p).is_static_function x)) (enumerate_from 0 (signatures_of d.functions)) f (ap not s)
        (value-given (λ f. is_binding (world d p) d.functions f ≡ true) (flat_map (given_value (world d p)) p.init) f h
        (all_out (λ e. is_binding (world d p) d.functions e.0) (flat_map (given_value (world d p)) p.init) ok.valued)))

  -- what an effect or a timed literal has isn't static
  pub predicate-changes : (n : Text) → Within (changed_predicates d p) n → (world d p).is_static (place_in (world d p).predicates n) ≡ false
  unfolding world
  predicate-changes n h = ap not (h (λ m. place_in (world d p).predicates m == place_in (world d p).predicates n) (same_itself (place_in (world d p).predicates n)))

  pub function-changes : (n : Text) → Within (changed_functions d) n → (world d p).is_static_function (place_in (world d p).functions n) ≡ false
  unfolding world
  function-changes n h = ap not (h (λ m. place_in (world d p).functions m == place_in (world d p).functions n) (same_itself (place_in (world d p).functions n)))
