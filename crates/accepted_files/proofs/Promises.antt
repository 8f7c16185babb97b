-- What the grounder asks of a domain and a problem, field by field, where their readers accept them.
use Rattle.std.proofs.Common.{◌≡◌, refl, sym, ap, ap₂, subst, ◌∙◌, ℕ, ◌+◌, ◌≤◌, Bool, true, ◌&&◌, List, [], ◌∷◌, ◌++◌, map, length, arith}
use Rattle.std.specs.List.{AllByRecursion as Each, flat_map, filter, list_all, enumerate_from}
use Rattle.std.specs.Str.{bytes_eq}
use Rattle.std.proofs.lemmas.List.{length-append, length-map, map-append}
use Rattle.basics.proofs.Bools.{and_left, and_right, and_in}
use Rattle.basics.proofs.Naturals.{le_in}
use Rattle.basics.proofs.Lists.{all_in, all_out, all_append, all_weaker, each_append, each_map}
use Rattle.rational.specs.Rational.{zeroℚ, ◌<ℚ◌}
use Rattle.task_types.specs.Tests.{◌<?◌}
use Rattle.task_types.specs.WellMade.{list_limit, is_short, are_below, is_task_name, are_names}
use Rattle.task_types.proofs.Comparisons.{lt_in}
use Rattle.pddl_terms.specs.declared.files.ActionDef.{ActionDef}
use Rattle.pddl_terms.specs.declared.files.Domain.{Domain}
use Rattle.pddl_terms.specs.declared.files.InitEntry.{InitEntry}
use Rattle.pddl_terms.specs.declared.files.InitEntry.TheVariants as entry
use Rattle.pddl_terms.specs.declared.files.Problem.{Problem}
use Rattle.pddl_names.specs.Calls.{names_of}
use Rattle.pddl_names.specs.Declarations.{Text, Typed, Signature, sorts_of, typed, with_new, declared_objects}
use Rattle.pddl_names.specs.Files.{texts_of}
use Rattle.pddl_names.proofs.Ways.{same_text}
use Rattle.pddl_forms.specs.Limits.{objects_limit, parameters_limit, names_in}
use Rattle.pddl_forms.specs.TimedLiterals.{timed_literals}
use Rattle.pddl_forms.proofs.Accepting.{moments_lie_above, parameters_are_few, objects_are_few}
use Rattle.pddl_domain.specs.Accepted.{DeclaresOnce, action_names}
use Rattle.pddl_domain.specs.Readings.{IsDomain}
use Rattle.pddl_domain.proofs.Accepting.{declares_once}
use Rattle.pddl_domain.proofs.Sizes.{is_no_longer}
use Rattle.pddl_problem.specs.Readings.{IsProblem}
use Rattle.ground_world.specs.World.{World, GroundAtom, ground_atom, arguments}
use Rattle.ground_world.specs.Bindings.{choices}
use Rattle.ground_world.specs.Changes.{atoms_in, changes}
use Rattle.ground_world.specs.Conditions.{body_bounds}
use Rattle.ground_world.specs.FirstState.{signatures_of, world}
use Rattle.grounder.specs.Accepted.{is_small, is_binding, IsAccepted}
use Rattle.grounder.specs.Task.{Timing, timing, timings, mentioned_atoms}
use Rattle.grounder.proofs.Columns.{atoms-below}
use Rattle.grounder.proofs.Each.{each_weaker, each_filter, each_enumerated, each_everywhere, any_of_each}
use Rattle.grounder.proofs.WorldFacts.{fitting-below}
use Rattle.accepted_files.specs.Clean.{IsClean}
use Rattle.accepted_files.specs.Laws.{AtomsAreBindings, HaveTaskNames, IsSymbolWithin, IsActionWithin, PartsAreNoLonger, text_limit, AcceptedTimeCostsFit, ReadersPromise}
use Rattle.accepted_files.proofs.Cleaning.{files_clean}
use Rattle.accepted_files.proofs.Costs.{costs-fit}
use Rattle.accepted_files.proofs.Distinct.{apart-new, all-new, keys-firsts, names-are}
use Rattle.accepted_files.proofs.FileNames.{file_names, types_named}
use Rattle.accepted_files.proofs.Files.{cost_forms, clean_atoms-bound}
use Rattle.accepted_files.proofs.MetricWeights.{weights_not_negative}
use Rattle.accepted_files.proofs.PartSizes.{one-atom, sorts-many, parts_no_longer}
use Rattle.accepted_files.proofs.Variables.{names-typed, are_apart}
use Rattle.ground_world.proofs.NewNames.{with_new-length}

short : {A : Type 0} (xs : List A) (n : ℕ) → length xs ≤ n → n ≤ text_limit → is_short xs ≡ true
short xs n h k = le_in (length xs) list_limit (omega (arith, h, k))

-- ---- objects

-- the names of the objects: those of the constants and then those of the problem, the first of each
objects-are : (d : Domain) (p : Problem) → (world d p).objects ≡ with_new [] (texts_of (names_of d.constants) ++ texts_of (names_of p.objects))
unfolding world
objects-are d p = keys-firsts [] (declared_objects d p)
    ∙ ap (with_new []) (map-append (λ (e : Typed). e.0) (typed d.constants) (typed p.objects) ∙ ap₂ (λ (x y : List Text). x ++ y) (names-typed d.constants) (names-typed p.objects))

objects-named : (d : Domain) (p : Problem) → HaveTaskNames d p → are_names (world d p).objects ≡ true
objects-named d p h = ap are_names (objects-are d p)
    ∙ names-are (with_new [] declared) (apart-new [] declared refl)
    (all-new is_task_name [] declared refl (all_append is_task_name (texts_of (names_of d.constants)) (texts_of (names_of p.objects)) h.constants h.objects))
  where
    declared : List Text
    declared = texts_of (names_of d.constants) ++ texts_of (names_of p.objects)

objects-short : (d : Domain) (p : Problem) → length (names_in d.constants) + length (names_in p.objects) ≤ objects_limit → is_short (world d p).objects ≡ true
objects-short d p few = short (world d p).objects objects_limit
    (let same : length (world d p).objects ≡ length (with_new [] (texts_of (names_of d.constants) ++ texts_of (names_of p.objects))) = ap length (objects-are d p) in
    let new = with_new-length [] (texts_of (names_of d.constants) ++ texts_of (names_of p.objects)) in
    let both = length-append (texts_of (names_of d.constants)) (texts_of (names_of p.objects)) in
    let constants = length-map (names_of d.constants) (λ n. n.bytes) in
    let objects = length-map (names_of p.objects) (λ n. n.bytes) in
    omega (arith, same, new, both, constants, objects, few)) (omega arith)

-- ---- predicates and functions

symbols-named : (n : ℕ) → n ≤ text_limit → (ss : List Signature) → Each (IsSymbolWithin n) ss → list_all is_short (map {B = Text} (λ s. s.0) ss) ≡ true
symbols-named n k ss h = all_in is_short (map {B = Text} (λ s. s.0) ss) (each_map (λ (t : Text). is_short t ≡ true) (λ s. s.0) ss
    (each_weaker (IsSymbolWithin n) (λ s. is_short s.0 ≡ true) (λ s w. short s.0 n w.0 k) ss h))

symbols-short : (n : ℕ) → n ≤ text_limit → (ss : List Signature) → Each (IsSymbolWithin n) ss → list_all (λ s. is_short s.1) ss ≡ true
symbols-short n k ss h = all_in (λ s. is_short s.1) ss (each_weaker (IsSymbolWithin n) (λ s. is_short s.1 ≡ true) (λ s w. short s.1 n w.1 k) ss h)

-- ---- actions

action-small : (n : ℕ) → n ≤ text_limit → (a : ActionDef) → IsActionWithin n a → length (names_in a.parameters) ≤ parameters_limit → is_small a ≡ true
action-small n k a w few =
    let sorts = sorts-many a.parameters in
    let bounds = w.bounds in
    and_in _ _ (and_in _ _ (short (sorts_of a.parameters) parameters_limit (omega (arith, sorts, few)) (omega arith))
    (le_in (length (body_bounds a.body)) 524288 (omega (arith, bounds, k))))
    (short (changes a) n w.changes k)

actions-small : (n : ℕ) → n ≤ text_limit → (actions : List ActionDef) → Each (IsActionWithin n) actions → Each (λ a. length (names_in a.parameters) ≤ parameters_limit) actions → list_all is_small actions ≡ true
actions-small n k [] w few = refl
actions-small n k (a ∷ actions) w few = and_in (is_small a) (list_all is_small actions) (action-small n k a w.0 few.0) (actions-small n k actions w.1 few.1)

-- ---- what is mentioned

module _ (d : Domain) (p : Problem) (objects : is_short (world d p).objects ≡ true) (parameters : list_all (λ s. is_short s.1) (signatures_of d.predicates) ≡ true) where
  abbrev Below : GroundAtom → Type 0
  Below a = are_below (length (world d p).objects) (arguments a) ≡ true

  all-below : Each Below (flat_map (λ x. map (λ os. x.0 ∷ os) (choices (map (world d p).fitting x.1.1))) (filter (λ x. true) (enumerate_from 0 (signatures_of d.predicates))))
  all-below = atoms-below (world d p) (length (world d p).objects) (fitting-below d p objects) (filter (λ x. true) (enumerate_from 0 (signatures_of d.predicates)))
      (each_weaker (λ e. (is_short e.1.1 ≡ true) × (true ≡ true)) (λ e. is_short e.1.1 ≡ true) (λ e h. h.0) (filter (λ x. true) (enumerate_from 0 (signatures_of d.predicates)))
      (each_filter (λ e. is_short e.1.1 ≡ true) (λ x. true) (enumerate_from 0 (signatures_of d.predicates))
      (each_enumerated (λ s. is_short s.1 ≡ true) 0 (signatures_of d.predicates) (all_out (λ s. is_short s.1) (signatures_of d.predicates) parameters))))

  binding-below : (a : GroundAtom) → is_binding (world d p) d.predicates a ≡ true → Below a
  binding-below a h = any_of_each (bytes_eq a) Below (Below a) (λ b s k. subst Below (sym (same_text a b s)) k)
      (flat_map (λ x. map (λ os. x.0 ∷ os) (choices (map (world d p).fitting x.1.1))) (filter (λ x. true) (enumerate_from 0 (signatures_of d.predicates)))) all-below h

  pub atoms-within : (atoms : List GroundAtom) → list_all (is_binding (world d p) d.predicates) atoms ≡ true → list_all (λ a. are_below (length (world d p).objects) (arguments a)) atoms ≡ true
  atoms-within atoms h = all_weaker (is_binding (world d p) d.predicates) (λ a. are_below (length (world d p).objects) (arguments a)) binding-below atoms h

-- ---- timed literals

timings-few : (w : World) (es : List InitEntry) → length (timings w es) ≤ length es
unfolding timings
timings-few w [] = omega arith
timings-few w (entry.Holds a ∷ es) = let rest = timings-few w es in omega (arith, rest)
timings-few w (entry.Not at c ∷ es) = let rest = timings-few w es in omega (arith, rest)
timings-few w (entry.Value at c q ∷ es) = let rest = timings-few w es in omega (arith, rest)
timings-few w (entry.Timed l ∷ es) =
    let rest = timings-few w es in
    let one = one-atom {A = Timing} (λ a. record { moment = l.moment; holds = l.holds; atom = ground_atom w [] a }) l.atom in
    let both = length-append (timing w (entry.Timed l)) (flat_map (timing w) es) in
    omega (arith, rest, one, both)
timings-few w (entry.LeftOut at ∷ es) = let rest = timings-few w es in omega (arith, rest)

timings-above : (w : World) (es : List InitEntry) → Each (λ l. zeroℚ <ℚ l.moment) (timed_literals es) → Each (λ l. (zeroℚ <? l.moment) ≡ true) (timings w es)
unfolding timings
timings-above w [] h = tt
timings-above w (entry.Holds a ∷ es) h = timings-above w es h
timings-above w (entry.Not at c ∷ es) h = timings-above w es h
timings-above w (entry.Value at c q ∷ es) h = timings-above w es h
timings-above w (entry.Timed l ∷ es) h = each_append (λ x. (zeroℚ <? x.moment) ≡ true) (timing w (entry.Timed l)) (flat_map (timing w) es)
    (each_map (λ x. (zeroℚ <? x.moment) ≡ true) (λ a. record { moment = l.moment; holds = l.holds; atom = ground_atom w [] a }) (atoms_in l.atom)
    (each_everywhere (λ a. (zeroℚ <? l.moment) ≡ true) (λ a. lt_in zeroℚ l.moment h.0) (atoms_in l.atom))) (timings-above w es h.1)
timings-above w (entry.LeftOut at ∷ es) h = timings-above w es h

both-hold : (q : GroundAtom → Bool) (ls : List Timing) → Each (λ l. (zeroℚ <? l.moment) ≡ true) ls → list_all (λ l. q l.atom) ls ≡ true → list_all (λ l. (zeroℚ <? l.moment) && q l.atom) ls ≡ true
both-hold q [] h k = refl
both-hold q (l ∷ ls) h k = and_in _ _ (and_in (zeroℚ <? l.moment) (q l.atom) h.0 (and_left (q l.atom) _ k)) (both-hold q ls h.1 (and_right (q l.atom) _ k))

-- ---- all of it

module _ (domain problem : List ℕ) (d : Domain) (p : Problem) (domain_few : length domain ≤ text_limit) (problem_few : length problem ≤ text_limit) (f : IsDomain domain d) (g : IsProblem d problem p) where
  clean : IsClean d p
  clean = files_clean domain problem d p f g

  names : HaveTaskNames d p
  names = file_names domain problem d p f g

  atoms : AtomsAreBindings d p
  atoms = clean_atoms-bound d p clean (types_named d p names)

  parts : PartsAreNoLonger d p (length domain) (length problem)
  parts = parts_no_longer domain problem d p f g

  once : DeclaresOnce d
  once = declares_once d clean.domain_names

  predicates : Each (IsSymbolWithin (length domain)) (signatures_of d.predicates)
  predicates = subst (λ (ss : List Signature). Each (IsSymbolWithin (length domain)) ss) (sym once.predicates) parts.predicates

  functions : Each (IsSymbolWithin (length domain)) (signatures_of d.functions)
  functions = subst (λ (ss : List Signature). Each (IsSymbolWithin (length domain)) ss) (sym once.functions) parts.functions

  few_objects : is_short (world d p).objects ≡ true
  few_objects = objects-short d p (objects_are_few d p clean.domain_limits clean.problem_limits)

  parameters : list_all (λ s. is_short s.1) (signatures_of d.predicates) ≡ true
  parameters = symbols-short (length domain) domain_few (signatures_of d.predicates) predicates

  action-names : are_names (action_names d) ≡ true
  action-names = names-are (action_names d) (ap are_apart (sym once.actions) ∙ apart-new [] (action_names d) refl) names.actions

  named : (list_all is_short (world d p).predicates && list_all is_short (world d p).functions) ≡ true
  unfolding world
  named = and_in _ _ (symbols-named (length domain) domain_few (signatures_of d.predicates) predicates) (symbols-named (length domain) domain_few (signatures_of d.functions) functions)

  pub accepted : IsAccepted d p
  accepted = record {
    objects = and_in (is_short (world d p).objects) (are_names (world d p).objects) few_objects (objects-named d p names);
    schemas = and_in (is_short d.actions) (are_names (action_names d)) (short d.actions (length domain) (is_no_longer domain d f).actions domain_few) action-names;
    small = actions-small (length domain) domain_few d.actions parts.actions (parameters_are_few d clean.domain_limits);
    names = named;
    parameters = and_in _ _ parameters (symbols-short (length domain) domain_few (signatures_of d.functions) functions);
    bound = atoms.bound;
    mentioned = atoms-within d p few_objects parameters (mentioned_atoms (world d p) d p) atoms.mentioned;
    valued = atoms.valued;
    timed = and_in _ _ (short (timings (world d p) p.init) (length problem) (let few = timings-few (world d p) p.init in let entries = parts.entries in omega (arith, few, entries)) problem_few)
        (both-hold (is_binding (world d p) d.predicates) (timings (world d p) p.init) (timings-above (world d p) p.init (moments_lie_above d p clean.problem_forms)) atoms.timed);
    weights = weights_not_negative domain problem d p f g;
    late = costs-fit d problem p g (cost_forms d p clean (types_named d p names)) clean.problem_limits;
  }

pub readers_promise : ReadersPromise
readers_promise domain problem d p domain_few problem_few f g = accepted domain problem d p domain_few problem_few f g

pub accepted_costs : AcceptedTimeCostsFit
accepted_costs domain problem d p f g =
    let clean = files_clean domain problem d p f g in
    costs-fit d problem p g (cost_forms d p clean (types_named d p (file_names domain problem d p f g))) clean.problem_limits
