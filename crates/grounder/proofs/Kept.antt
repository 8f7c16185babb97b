-- What is known of each kept binding of an accepted domain and problem.
use Rattle.std.proofs.Common.{◌≡◌, refl, sym, ap, subst, ◌∙◌, ℕ, arith, Bool, true, false, not, ◌&&◌, ◌||◌, nat_lt, nat_le, List, [], ◌∷◌, ◌++◌, length, append_assoc}
use Rattle.std.specs.List.{AllByRecursion as Each, flat_map, filter, list_any, list_all}
use Rattle.std.proofs.lemmas.List.{length-map, nil_from_length}
use Rattle.std.proofs.lemmas.List.FromFn.{length-range_with_len}
use Rattle.std.proofs.lemmas.Bool.Decides.{nat_tests}
use Rattle.basics.proofs.Bools.{and_left, or_left}
use Rattle.basics.proofs.Lists.{all_out, any_left, any_right, each_map}
use Rattle.task_types.specs.WellMade.{arguments_fit}
use Rattle.pddl_terms.specs.declared.files.ActionDef.{ActionDef}
use Rattle.pddl_terms.specs.declared.files.Domain.{Domain}
use Rattle.pddl_terms.specs.declared.files.Problem.{Problem}
use Rattle.pddl_names.specs.Declarations.{Text}
use Rattle.ground_world.specs.World.{columns}
use Rattle.ground_world.specs.Bindings.{choices, choice_at, choice_count, numbers}
use Rattle.ground_world.specs.Changes.{Change, changes}
use Rattle.ground_world.specs.FirstState.{world, changed_predicate, changed_function, changed_predicates, changed_functions, timed_predicate}
use Rattle.ground_world.specs.Counts.{body_count, bindings_fit, fit_limits}
use Rattle.ground_world.proofs.Choices.{choices-by_number}
use Rattle.grounder.specs.Instances.{Instance, instances_of, is_kept, kept}
use Rattle.grounder.specs.Accepted.{is_small, is_binding, instance_atoms, IsAccepted}
use Rattle.grounder.proofs.Each.{each_weaker, each_both, each_flat_map, flat_map_each, each_filter}
use Rattle.grounder.proofs.Choosing.{choices-fit}

-- what stands in a list is found there by each test that it passes
abbrev pub Within : {X : Type 0} → List X → X → Type 0
Within {X} xs x = (test : X → Bool) → test x ≡ true → list_any test xs ≡ true

pub each_within : {X : Type 0} (before xs : List X) → Each (Within (before ++ xs)) xs
each_within before [] = tt
each_within before (x ∷ xs) = (
  (λ test t. any_right test before (x ∷ xs) (or_left (test x) (list_any test xs) t)),
  subst (λ ys. Each (Within ys) xs) (append_assoc before (x ∷ []) xs) (each_within (before ++ (x ∷ [])) xs),
)

-- the predicate or the function that a change has is one of those that actions change
pub record IsChange (d : Domain) (p : Problem) (c : Change) : Type 0 where
  pub predicates : Each (Within (changed_predicates d p)) (changed_predicate c)
  pub functions : Each (Within (changed_functions d)) (changed_function c)

pub record Sound (d : Domain) (p : Problem) (i : Instance) : Type 0 where
  pub kept : is_kept (world d p) i ≡ true
  pub small : is_small i.action ≡ true
  pub known : Within d.actions i.action
  pub changed : Each (λ c. IsChange d p c.part) (changes i.action)
  pub args : arguments_fit i.args (columns (world d p) i.action.parameters) ≡ true
  pub atoms : list_all (is_binding (world d p) d.predicates) (instance_atoms (world d p) i) ≡ true
  pub parts : nat_le (body_count (world d p) i.action.body) 65536 ≡ true

-- ---- actions

record SoundAction (d : Domain) (p : Problem) (a : ActionDef) : Type 0 where
  small : is_small a ≡ true
  known : Within d.actions a
  changed : Each (λ c. IsChange d p c.part) (changes a)
  atoms : list_all (λ i. list_all (is_binding (world d p) d.predicates) (instance_atoms (world d p) i)) (instances_of (world d p) a) ≡ true
  fits : fit_limits (choice_count (columns (world d p) a.parameters)) (body_count (world d p) a.body) ≡ true

module _ (d : Domain) (p : Problem) where
  predicates-changed : Each (λ a. Each (λ c. Each (Within (changed_predicates d p)) (changed_predicate c.part)) (changes a)) d.actions
  predicates-changed =
      each_weaker (λ a. Each (Within (changed_predicates d p)) (flat_map (λ c. changed_predicate c.part) (changes a)))
      (λ a. Each (λ c. Each (Within (changed_predicates d p)) (changed_predicate c.part)) (changes a))
      (λ a h. flat_map_each (Within (changed_predicates d p)) (λ c. changed_predicate c.part) (changes a) h) d.actions
      (flat_map_each (Within (changed_predicates d p)) (λ a. flat_map (λ c. changed_predicate c.part) (changes a)) d.actions
      (each_weaker (Within of_actions) (Within (of_actions ++ flat_map timed_predicate p.init)) (λ n h test t. any_left test of_actions (flat_map timed_predicate p.init) (h test t)) of_actions (each_within [] of_actions)))
    where
      of_actions : List Text
      of_actions = flat_map (λ a. flat_map (λ c. changed_predicate c.part) (changes a)) d.actions

  functions-changed : Each (λ a. Each (λ c. Each (Within (changed_functions d)) (changed_function c.part)) (changes a)) d.actions
  functions-changed =
      each_weaker (λ a. Each (Within (changed_functions d)) (flat_map (λ c. changed_function c.part) (changes a)))
      (λ a. Each (λ c. Each (Within (changed_functions d)) (changed_function c.part)) (changes a))
      (λ a h. flat_map_each (Within (changed_functions d)) (λ c. changed_function c.part) (changes a) h) d.actions
      (flat_map_each (Within (changed_functions d)) (λ a. flat_map (λ c. changed_function c.part) (changes a)) d.actions (each_within [] (changed_functions d)))

  changes-known : Each (λ a. Each (λ c. IsChange d p c.part) (changes a)) d.actions
  changes-known = each_weaker
      (λ a. Each (λ c. Each (Within (changed_predicates d p)) (changed_predicate c.part)) (changes a) × Each (λ c. Each (Within (changed_functions d)) (changed_function c.part)) (changes a))
      (λ a. Each (λ c. IsChange d p c.part) (changes a))
      (λ a h. each_weaker (λ c. Each (Within (changed_predicates d p)) (changed_predicate c.part) × Each (Within (changed_functions d)) (changed_function c.part)) (λ c. IsChange d p c.part)
      (λ c k. record { predicates = k.0; functions = k.1 }) (changes a)
      (each_both (λ c. Each (Within (changed_predicates d p)) (changed_predicate c.part)) (λ c. Each (Within (changed_functions d)) (changed_function c.part)) (changes a) h.0 h.1))
      d.actions
      (each_both (λ a. Each (λ c. Each (Within (changed_predicates d p)) (changed_predicate c.part)) (changes a))
      (λ a. Each (λ c. Each (Within (changed_functions d)) (changed_function c.part)) (changes a)) d.actions predicates-changed functions-changed)

  no_choice : (cs : List (List ℕ)) → nat_lt 0 (choice_count cs) ≡ false → choices cs ≡ []
  no_choice cs h = nil_from_length (choices cs)
      (ap length (choices-by_number cs) ∙ length-map (numbers (choice_count cs)) (choice_at cs) ∙ length-range_with_len 0 (choice_count cs) ∙ grind (arith, nat_tests))

  module _ (ok : IsAccepted d p) (fit : bindings_fit (world d p) d p ≡ true) where
    limits-kept : list_all (λ a. fit_limits (choice_count (columns (world d p) a.parameters)) (body_count (world d p) a.body)) d.actions ≡ true
    unfolding bindings_fit
    limits-kept = and_left _ _ (and_left _ _ (and_left _ _ (and_left _ _ fit)))

    actions-sound : Each (SoundAction d p) d.actions
    actions-sound = go d.actions (all_out is_small d.actions ok.small) (each_within [] d.actions) changes-known
        (all_out (λ a. list_all (λ i. list_all (is_binding (world d p) d.predicates) (instance_atoms (world d p) i)) (instances_of (world d p) a)) d.actions ok.bound)
        (all_out (λ a. fit_limits (choice_count (columns (world d p) a.parameters)) (body_count (world d p) a.body)) d.actions limits-kept)
      where
        go : (more : List ActionDef) → Each (λ a. is_small a ≡ true) more → Each (Within d.actions) more → Each (λ a. Each (λ c. IsChange d p c.part) (changes a)) more
            → Each (λ a. list_all (λ i. list_all (is_binding (world d p) d.predicates) (instance_atoms (world d p) i)) (instances_of (world d p) a) ≡ true) more
            → Each (λ a. fit_limits (choice_count (columns (world d p) a.parameters)) (body_count (world d p) a.body) ≡ true) more → Each (SoundAction d p) more
        go [] s k c b f = tt
        go (a ∷ more) s k c b f = (record { small = s.0; known = k.0; changed = c.0; atoms = b.0; fits = f.0 }, go more s.1 k.1 c.1 b.1 f.1)

    -- the bindings of one action
    instances-sound : (a : ActionDef) → SoundAction d p a → Each (Sound d p) (filter (is_kept (world d p)) (instances_of (world d p) a))
    instances-sound a s = each_weaker (λ i. Told i × (is_kept (world d p) i ≡ true)) (Sound d p)
        (λ i k. record { kept = k.1; small = k.0.0.0; known = k.0.0.1; changed = k.0.0.2; args = k.0.0.3; atoms = k.0.1; parts = k.0.0.4 })
        (filter (is_kept (world d p)) (instances_of (world d p) a))
        (each_filter Told (is_kept (world d p)) (instances_of (world d p) a)
        (each_both Own (λ i. list_all (is_binding (world d p) d.predicates) (instance_atoms (world d p) i) ≡ true) (instances_of (world d p) a) owned
        (all_out (λ i. list_all (is_binding (world d p) d.predicates) (instance_atoms (world d p) i)) (instances_of (world d p) a) s.atoms)))
      where
        cs : List (List ℕ)
        cs = columns (world d p) a.parameters

        Own : Instance → Type 0
        Own i = (is_small i.action ≡ true) × Within d.actions i.action × Each (λ c. IsChange d p c.part) (changes i.action)
            × (arguments_fit i.args (columns (world d p) i.action.parameters) ≡ true) × (nat_le (body_count (world d p) i.action.body) 65536 ≡ true)

        Told : Instance → Type 0
        Told i = Own i × (list_all (is_binding (world d p) d.predicates) (instance_atoms (world d p) i) ≡ true)

        some : (b : Bool) → nat_lt 0 (choice_count cs) ≡ b → Each (λ os. Own (record { action = a; args = os })) (choices cs)
        some true e = each_weaker (λ os. arguments_fit os cs ≡ true) (λ os. Own (record { action = a; args = os }))
            (λ os h. (s.small, s.known, s.changed, h, within (nat_le (choice_count cs) 1048576) (nat_le (body_count (world d p) a.body) 65536) (nat_lt 0 (choice_count cs)) e s.fits)) (choices cs) (choices-fit cs)
          where
            within : (x y z : Bool) → z ≡ true → (x && (y || not z)) ≡ true → y ≡ true
            within x true z e h = refl
            within true false true e h = h
            within false false z e h = cc
            within true false false e h = cc
        some false e = subst (λ oss. Each (λ os. Own (record { action = a; args = os })) oss) (sym (no_choice cs e)) tt

        owned : Each Own (instances_of (world d p) a)
        owned = each_map Own (λ os. record { action = a; args = os }) (choices cs) (some (nat_lt 0 (choice_count cs)) refl)

    pub kept-sound : Each (Sound d p) (kept (world d p) d.actions)
    unfolding kept
    kept-sound = each_flat_map (Sound d p) (λ a. filter (is_kept (world d p)) (instances_of (world d p) a)) d.actions
        (each_weaker (SoundAction d p) (λ a. Each (Sound d p) (filter (is_kept (world d p)) (instances_of (world d p) a))) instances-sound d.actions actions-sound)
