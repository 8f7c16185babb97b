-- The bindings of an action by their numbers: what is found of one, and one more.
use Rattle.std.proofs.Common.{◌≡◌, refl, sym, ap, ap₂, ◌∙◌, ℕ, suc, ◌+◌, ◌<◌, ◌≤◌, arith, Bool, true, false, not, ◌&&◌, ◌||◌, nat_lt, nat_le, if◌then◌else◌, min, List, [], ◌∷◌, ◌++◌, map, length, take, get_or, append_assoc, Option, Some, None}
use Rattle.std.specs.List.{flat_map, filter}
use Rattle.std.proofs.lemmas.List.{map-append, append-nil}
use Rattle.std.proofs.lemmas.List.Elements.{filter-append}
use Rattle.std.proofs.lemmas.List.Concat.{flat_map-append}
use Rattle.basics.proofs.Naturals.{lt_in, le_out}
use Rattle.basics.proofs.Bools.{and_left, and_right}
use Rattle.task_types.proofs.Places.{numbers-more}
use Rattle.pddl_terms.specs.declared.files.ActionDef.{ActionDef}
use Rattle.pddl_names.specs.Declarations.{Text}
use Rattle.ground_world.specs.World.{World, Env, either, columns, variable_names}
use Rattle.ground_world.specs.Bindings.{numbers, choice_count, choice_at, paired}
use Rattle.ground_world.specs.Changes.{Staged, Change, body_changes}
use Rattle.ground_world.specs.Conditions.{DurationBound, body_bounds, body_conditions, difference}
use Rattle.ground_world.specs.Counts.{body_count, fit_limits, part_limit}
use Rattle.ground_world.specs.Shown as shown
use Rattle.ground_world.specs.declared.binding.Bound.{Bound}
use Rattle.ground_world.proofs.Choices.{choices-by_number}
use Rattle.ground_world.proofs.NestedChoices.{same_length}
use Rattle.ground_world.proofs.Steps.{taken}
use Rattle.grounder.specs.Answer.{least}
use Rattle.ground_world.specs.Expressions.{reckoned, wide_places, zero_divisors}
use Rattle.ground_world.specs.FirstState.{no_places}
use Rattle.grounder.specs.Instances.{Instance, env_of, instances_of, no_unknowns, change_reckons, tests_of, instance_reckons, flaws_of, reckons, assigns_twice, is_kept, kept, wide_in_instance, wide_in_actions}
use Rattle.grounder.specs.Bindings.{Pieces, flaws_in, keeps, wides_in, numbered, lower}
use Rattle.grounder.proofs.Flawed.{flaws-joined}

-- ---- the least of places in two lists

pub least-append : (ps qs : List ℕ) → least (ps ++ qs) ≡ lower (least ps) (least qs)
least-append [] qs = refl
least-append (p ∷ ps) qs = ap (λ o. Some (either p (min p) o)) (least-append ps qs) ∙ by (least ps) (least qs)
  where
    by : (a b : Option ℕ) → ◌≡◌ {A = Option ℕ} (Some (either p (min p) (lower a b))) (lower (Some (either p (min p) a)) b)
    by None b = refl
    by (Some m) None = refl
    by (Some m) (Some n) = ap Some (let e : min p (min m n) ≡ min (min p m) n = omega arith in e)

pub lower-assoc : (a b c : Option ℕ) → lower (lower a b) c ≡ lower a (lower b c)
lower-assoc None b c = refl
lower-assoc (Some p) None c = refl
lower-assoc (Some p) (Some q) None = refl
lower-assoc (Some p) (Some q) (Some r) = ap Some (let e : min (min p q) r ≡ min p (min q r) = omega arith in e)

pub lower-none : (a : Option ℕ) → a ≡ lower a None
lower-none None = refl
lower-none (Some p) = refl

-- ---- one binding

length-choice_at : (cs : List (List ℕ)) (k : ℕ) → length (choice_at cs k) ≡ length cs
length-choice_at [] k = refl
length-choice_at (c ∷ cs) k = ap suc (length-choice_at cs _)

objects-paired : (ns : List Text) (os : List ℕ) → length os ≡ length ns → map (λ b. b.1) (paired ns os) ≡ os
objects-paired [] [] h = refl
objects-paired [] (o ∷ os) h = absurd (omega arith)
objects-paired (n ∷ ns) [] h = absurd (omega arith)
objects-paired (n ∷ ns) (o ∷ os) h = ap (λ (l : List ℕ). o ∷ l) (objects-paired ns os (omega arith))

objects-shown : (env : List Bound) → map (λ b. b.object) env ≡ map (λ b. b.1) (shown.env_of env)
objects-shown [] = refl
objects-shown (b ∷ env) = ap (λ (l : List ℕ). b.object ∷ l) (objects-shown env)

-- the objects of binding number k are its choice
pub objects-numbered : (w : World) (a : ActionDef) (k : ℕ) (env : List Bound) → shown.env_of env ≡ env_of (numbered w a k) → map (λ b. b.object) env ≡ choice_at (columns w a.parameters) k
objects-numbered w a k env e =
    objects-shown env ∙ ap (λ (l : Env). map (λ b. b.1) l) e
    ∙ objects-paired (variable_names a.parameters) (choice_at (columns w a.parameters) k) (length-choice_at (columns w a.parameters) k ∙ same_length w a.parameters)

module _ (w : World) (a : ActionDef) (k : ℕ) (env : Env) (bs : List DurationBound) (cs : List (Staged Change))
    (e : env ≡ env_of (numbered w a k)) (b : bs ≡ body_bounds a.body) (c : cs ≡ body_changes a.body) where
  abbrev pieces : Env → List DurationBound → List (Staged Change) → Pieces
  pieces x y z = record { conditions = body_conditions w x a.body; bounds = y; changes = z }

  same : {A : Type 0} (f : Env → Pieces → A) → f env (pieces env bs cs) ≡ f (env_of (numbered w a k)) (pieces (env_of (numbered w a k)) (body_bounds a.body) (body_changes a.body))
  same f = ap (λ (x : Env). f x (pieces x bs cs)) e ∙ ap₂ (λ (y : List DurationBound) (z : List (Staged Change)). f (env_of (numbered w a k)) (pieces (env_of (numbered w a k)) y z)) b c

  -- the flaws of the three lists are those of all that is reckoned
  joined : flaws_in w (env_of (numbered w a k)) (pieces (env_of (numbered w a k)) (body_bounds a.body) (body_changes a.body)) ≡ flaws_of (instance_reckons w (numbered w a k))
  joined =
      flaws-joined (map (λ l. reckoned w no_unknowns (env_of (numbered w a k)) l.expression) (body_bounds a.body)) (map (difference w no_unknowns) (tests_of w (numbered w a k)))
      (flat_map (λ x. change_reckons w (env_of (numbered w a k)) x.part) (body_changes a.body))

  pub kept-numbered : keeps w env (record { conditions = body_conditions w env a.body; bounds = bs; changes = cs }) ≡ is_kept w (numbered w a k)
  unfolding is_kept
  kept-numbered =
      same (keeps w)
      ∙ ap (λ fs. (reckons w (numbered w a k) && no_places (zero_divisors fs)) && not (assigns_twice w (numbered w a k))) joined

  pub wide-numbered : wides_in w env (record { conditions = body_conditions w env a.body; bounds = bs; changes = cs }) ≡ wide_in_instance w (numbered w a k)
  wide-numbered = same (wides_in w) ∙ ap (λ fs. if reckons w (numbered w a k) then wide_places fs else []) joined

-- a binding that is put at the end where it is kept
pub filter-one : {X : Type 0} (p : X → Bool) (b : Bool) (x y : X) → b ≡ p x → y ≡ x → (if b then (y ∷ []) else []) ≡ filter p (x ∷ [])
filter-one {X} p b x y e h = ap₂ {C = List X} (λ c z. if c then (z ∷ []) else []) e h

-- ---- all bindings of an action

module _ (w : World) (a : ActionDef) where
  by_number : (ks : List ℕ) → map {B = Instance} (λ os. record { action = a; args = os }) (map (choice_at (columns w a.parameters)) ks) ≡ map (numbered w a) ks
  by_number [] = refl
  by_number (k ∷ ks) = ap (λ (l : List Instance). numbered w a k ∷ l) (by_number ks)

  pub instances-numbered : map (numbered w a) (numbers (choice_count (columns w a.parameters))) ≡ instances_of w a
  instances-numbered = sym (by_number (numbers (choice_count (columns w a.parameters)))) ∙ ap (map (λ os. record { action = a; args = os })) (sym (choices-by_number (columns w a.parameters)))

  one_more : (k : ℕ) → map (numbered w a) (numbers (k + 1)) ≡ map (numbered w a) (numbers k) ++ (numbered w a k ∷ [])
  one_more k = ap (map (numbered w a)) (numbers-more k) ∙ map-append (numbered w a) (numbers k) (k ∷ [])

  pub kept-more : (old before after : List Instance) (k : ℕ) → before ≡ old ++ filter (is_kept w) (map (numbered w a) (numbers k))
      → after ≡ before ++ filter (is_kept w) (numbered w a k ∷ []) → after ≡ old ++ filter (is_kept w) (map (numbered w a) (numbers (k + 1)))
  kept-more old before after k h e =
      e ∙ ap (λ l. l ++ filter (is_kept w) (numbered w a k ∷ [])) h ∙ append_assoc old _ _
      ∙ ap (λ l. old ++ l) (sym (filter-append (is_kept w) (map (numbered w a) (numbers k)) (numbered w a k ∷ [])) ∙ ap (filter (is_kept w)) (sym (one_more k)))

  pub wide-more : (old before after : Option ℕ) (k : ℕ) → before ≡ lower old (least (flat_map (wide_in_instance w) (map (numbered w a) (numbers k))))
      → after ≡ lower before (least (wide_in_instance w (numbered w a k))) → after ≡ lower old (least (flat_map (wide_in_instance w) (map (numbered w a) (numbers (k + 1)))))
  wide-more old before after k h e =
      e ∙ ap (λ o. lower o (least (wide_in_instance w (numbered w a k)))) h
      ∙ lower-assoc old (least (flat_map (wide_in_instance w) (map (numbered w a) (numbers k)))) (least (wide_in_instance w (numbered w a k)))
      ∙ ap (lower old) (sym (least-append (flat_map (wide_in_instance w) (map (numbered w a) (numbers k))) (wide_in_instance w (numbered w a k)))
      ∙ ap (λ l. least (flat_map (wide_in_instance w) (map (numbered w a) (numbers k)) ++ l)) (sym (append-nil (wide_in_instance w (numbered w a k))))
      ∙ ap least (sym (flat_map-append (wide_in_instance w) (map (numbered w a) (numbers k)) (numbered w a k ∷ [])))
      ∙ ap (λ is. least (flat_map (wide_in_instance w) is)) (sym (one_more k)))

  -- within the limits
  pub count-within : fit_limits (choice_count (columns w a.parameters)) (body_count w a.body) ≡ true → min 1048576 (choice_count (columns w a.parameters)) ≡ choice_count (columns w a.parameters)
  count-within h = let l : choice_count (columns w a.parameters) ≤ 1048576 = le_out _ _ (and_left _ _ h) in omega arith

  pub parts-within : fit_limits (choice_count (columns w a.parameters)) (body_count w a.body) ≡ true → (k : ℕ) → k < choice_count (columns w a.parameters) → body_count w a.body ≤ part_limit
  parts-within h k lt = le_out _ _ (by (nat_le (body_count w a.body) part_limit) (nat_lt 0 (choice_count (columns w a.parameters))) (lt_in _ _ (omega arith)) (and_right _ _ h))
    where
      by : (b z : Bool) → z ≡ true → (b || not z) ≡ true → b ≡ true
      by true z e k = refl
      by false true e k = k
      by false false e k = cc

-- ---- all actions

module _ (w : World) (as_defined : List ActionDef) (i : ℕ) (a : ActionDef) (lt : i < length as_defined) (at : a ≡ get_or as_defined i a) where
  pub kept-action : (before after : List Instance) → before ≡ kept w (take i as_defined) → after ≡ before ++ filter (is_kept w) (instances_of w a) → after ≡ kept w (take (i + 1) as_defined)
  unfolding kept
  kept-action before after h e =
      e ∙ ap₂ (λ x y. x ++ y) h (sym (append-nil (filter (is_kept w) (instances_of w a))))
      ∙ sym (flat_map-append (λ d. filter (is_kept w) (instances_of w d)) (take i as_defined) (a ∷ []))
      ∙ ap (flat_map (λ d. filter (is_kept w) (instances_of w d))) (sym (taken as_defined i a lt at))

  pub wide-action : (before after : Option ℕ) → before ≡ least (wide_in_actions w (take i as_defined)) → after ≡ lower before (least (flat_map (wide_in_instance w) (instances_of w a)))
      → after ≡ least (wide_in_actions w (take (i + 1) as_defined))
  unfolding wide_in_actions
  wide-action before after h e =
      e ∙ ap (λ o. lower o (least (flat_map (wide_in_instance w) (instances_of w a)))) h
      ∙ sym (least-append (flat_map (λ d. flat_map (wide_in_instance w) (instances_of w d)) (take i as_defined)) (flat_map (wide_in_instance w) (instances_of w a)))
      ∙ ap (λ l. least (flat_map (λ d. flat_map (wide_in_instance w) (instances_of w d)) (take i as_defined) ++ l)) (sym (append-nil (flat_map (wide_in_instance w) (instances_of w a))))
      ∙ ap least (sym (flat_map-append (λ d. flat_map (wide_in_instance w) (instances_of w d)) (take i as_defined) (a ∷ [])))
      ∙ ap (λ ds. least (flat_map (λ d. flat_map (wide_in_instance w) (instances_of w d)) ds)) (sym (taken as_defined i a lt at))
