-- The actions and the snap actions of the ground task fit, and are numbered one after the other.
use Rattle.std.proofs.Common.{◌≡◌, ◌⊎◌, inl, inr, refl, sym, ap, subst, ◌∙◌, ℕ, suc, ◌+◌, ◌≤◌, arith, Bool, true, false, not, ◌||◌, nat_lt, List, [], ◌∷◌, ◌++◌, map, length, Some, None}
use Rattle.std.specs.Prelude.{if◌then◌else◌, is_some, is_none}
use Rattle.std.specs.List.{AllByRecursion as Each, flat_map, list_any, list_all, enumerate_from}
use Rattle.std.proofs.lemmas.List.{length-map, length-append}
use Rattle.basics.proofs.Bools.{and_left, and_right, and_in, or_false_left, or_false_right}
use Rattle.basics.proofs.Naturals.{le_in, le_out}
use Rattle.basics.proofs.Lists.{all_in, each_map}
use Rattle.rational.specs.Rational.{ℚ}
use Rattle.task_types.specs.declared.actions.Action.{Action}
use Rattle.task_types.specs.declared.actions.Bound.{Bound}
use Rattle.task_types.specs.declared.actions.SnapKind.{SnapKind}
use Rattle.task_types.specs.declared.actions.SnapKind.TheVariants as snap
use Rattle.task_types.specs.declared.parts.TaskParts.{TaskParts}
use Rattle.task_types.specs.Touch.{is_timed, is_start_or_end}
use Rattle.task_types.specs.WellMade.{is_short, are_below, form_fits, is_instance, action_fits, snap_fits, is_start, is_empty, changes_facts_alone}
use Rattle.pddl_terms.specs.declared.trees.Comparison.{Comparison}
use Rattle.pddl_terms.specs.declared.trees.Comparison.TheVariants.{Equal, AtMost, AtLeast, Below, Above}
use Rattle.pddl_terms.specs.declared.files.Domain.{Domain}
use Rattle.pddl_terms.specs.declared.files.Problem.{Problem}
use Rattle.pddl_names.proofs.Ways.{text_itself}
use Rattle.ground_world.specs.declared.changes.Stage.{Stage}
use Rattle.ground_world.specs.declared.changes.Stage.TheVariants.{AtStart, OverAll, AtEnd}
use Rattle.ground_world.specs.Changes.{parts_at, changes}
use Rattle.ground_world.specs.FirstState.{world}
use Rattle.ground_world.specs.Conditions.{DurationBound, body_bounds}
use Rattle.ground_world.specs.Expressions.{reckoned, form_or_zero}
use Rattle.grounder.specs.Instances.{Instance, env_of, conditions_of, no_unknowns, assigned_by, is_twice}
use Rattle.grounder.specs.Task.{Ground, grounding, over_fluents, bound_kinds, bounds, is_durative, snap_of, snaps_of, action_of, numbered_actions, action_snaps, fluent_rates, action_condition}
use Rattle.grounder.specs.Accepted.{IsAccepted}
use Rattle.grounder.proofs.Each.{each_weaker, each_both, each_flat_map, each_number, each_enumerated, each_everywhere}
use Rattle.grounder.proofs.FormFacts.{form-ascends}
use Rattle.grounder.proofs.Kept.{Sound}
use Rattle.grounder.proofs.Conditions.{IsOver, over_fluents-fits, condition-fits}
use Rattle.grounder.proofs.Effects.{effect-fits, assigned-distinct, kept-assigns, rates-below}
use Rattle.grounder.proofs.Fields.{schema_of}

any-map : {X Y : Type 0} (q : Y → Bool) (f : X → Y) (xs : List X) → list_any (λ x. q (f x)) xs ≡ true → list_any q (map f xs) ≡ true
any-map q f [] h = h
any-map q f (x ∷ xs) h = by (q (f x)) refl (any-map q f xs)
  where
    by : (b : Bool) → q (f x) ≡ b → (list_any (λ x. q (f x)) xs ≡ true → list_any q (map f xs) ≡ true) → (b || list_any q (map f xs)) ≡ true
    by true e m = refl
    by false e m = m (sym (ap (λ b. b || list_any (λ x. q (f x)) xs) e) ∙ h)

pub length-numbered : (g : Ground) (n : ℕ) (is : List Instance) → length (numbered_actions g n is) ≡ length is
length-numbered g n [] = refl
length-numbered g n (i ∷ is) = ap suc (length-numbered g (if is_durative i.action.body then n + 2 else n + 1) is)

each-numbered : (P : Action → Type 0) (g : Ground) (n : ℕ) (is : List Instance) → Each (λ i. (m : ℕ) → P (action_of g m i)) is → Each P (numbered_actions g n is)
each-numbered P g n [] h = tt
each-numbered P g n (i ∷ is) h = (h.0 n, each-numbered P g (if is_durative i.action.body then n + 2 else n + 1) is h.1)

numbered-each : (P : Action → Type 0) (Q : Instance → Type 0) (g : Ground) → ((m : ℕ) (i : Instance) → P (action_of g m i) → Q i) → (n : ℕ) (is : List Instance) → Each P (numbered_actions g n is) → Each Q is
numbered-each P Q g f n [] h = tt
numbered-each P Q g f n (i ∷ is) h = (f n i h.0, numbered-each P Q g f (if is_durative i.action.body then n + 2 else n + 1) is h.1)

module _ (d : Domain) (p : Problem) (ok : IsAccepted d p) (task : TaskParts) (over : IsOver (grounding d p) task)
    (schemas : task.schemas ≡ map (schema_of d p) d.actions) where
  -- ---- actions

  instance-of : (n : ℕ) (i : Instance) → Sound d p i → list_any (is_instance (action_of (grounding d p) n i)) task.schemas ≡ true
  instance-of n i k = subst (λ ss. list_any (is_instance (action_of (grounding d p) n i)) ss ≡ true) (sym schemas)
      (any-map (is_instance (action_of (grounding d p) n i)) (schema_of d p) d.actions
      (k.known (λ a. is_instance (action_of (grounding d p) n i) (schema_of d p a)) (and_in _ _ (and_in _ _ (text_itself i.action.name.bytes) (by (is_durative i.action.body))) k.args)))
    where
      by : (b : Bool) → (if b then is_some (if b then Some (n + 1) else None) else is_none (if b then Some (n + 1) else None)) ≡ true
      by true = refl
      by false = refl

  one-kind : (o : Comparison) → length (bound_kinds o) ≤ 2
  one-kind Equal = omega arith
  one-kind AtMost = omega arith
  one-kind AtLeast = omega arith
  one-kind Below = omega arith
  one-kind Above = omega arith

  abbrev bounds_of : Instance → DurationBound → List Bound
  bounds_of i l = map (λ k. record { at_least = k; at_end = l.at_end; form = over_fluents (grounding d p) (form_or_zero (reckoned (world d p) no_unknowns (env_of i) l.expression)) }) (bound_kinds l.order)

  twice : {X Y : Type 0} (f : X → List Y) → ((x : X) → length (f x) ≤ 2) → (xs : List X) → length (flat_map f xs) ≤ length xs + length xs
  twice f h [] = omega arith
  twice f h (x ∷ xs) =
      let own : length (f x) ≤ 2 = h x in
      let ih : length (flat_map f xs) ≤ length xs + length xs = twice f h xs in
      let e : length (f x ++ flat_map f xs) ≡ length (f x) + length (flat_map f xs) = length-append (f x) (flat_map f xs) in
      omega arith

  bounds-short : (i : Instance) → Sound d p i → is_short (bounds (grounding d p) i) ≡ true
  bounds-short i k = le_in (length (bounds (grounding d p) i)) 1048576
      (let a : length (flat_map (bounds_of i) (body_bounds i.action.body)) ≤ length (body_bounds i.action.body) + length (body_bounds i.action.body) = twice (bounds_of i)
      (λ l. let e : length (bounds_of i l) ≡ length (bound_kinds l.order) = length-map (bound_kinds l.order) (λ k. record { at_least = k; at_end = l.at_end; form = over_fluents (grounding d p) (form_or_zero (reckoned (world d p) no_unknowns (env_of i) l.expression)) }) in
      let o : length (bound_kinds l.order) ≤ 2 = one-kind l.order in omega arith) (body_bounds i.action.body) in
      let b : length (body_bounds i.action.body) ≤ 524288 = le_out (length (body_bounds i.action.body)) 524288 (and_right _ _ (and_left _ _ k.small)) in
      omega arith)

  bounds-fit : (i : Instance) → list_all (λ b. form_fits task b.form) (bounds (grounding d p) i) ≡ true
  bounds-fit i = all_in (λ b. form_fits task b.form) (bounds (grounding d p) i)
      (each_flat_map (λ b. form_fits task b.form ≡ true) (bounds_of i) (body_bounds i.action.body)
      (each_everywhere (λ l. Each (λ b. form_fits task b.form ≡ true) (bounds_of i l))
      (λ l. each_map (λ b. form_fits task b.form ≡ true) (λ k. record { at_least = k; at_end = l.at_end; form = over_fluents (grounding d p) (form_or_zero (reckoned (world d p) no_unknowns (env_of i) l.expression)) }) (bound_kinds l.order)
      (each_everywhere (λ k. form_fits task (over_fluents (grounding d p) (form_or_zero (reckoned (world d p) no_unknowns (env_of i) l.expression))) ≡ true)
      (λ k. over_fluents-fits (grounding d p) task over (form_or_zero (reckoned (world d p) no_unknowns (env_of i) l.expression)) (form-ascends (world d p) no_unknowns (env_of i) l.expression)) (bound_kinds l.order)))
      (body_bounds i.action.body)))

  abbrev Watches : Instance → Type 0
  Watches i = length (action_condition (grounding d p) (parts_at OverAll (conditions_of (world d p) i))).comparisons ≤ 8

  action-fits : (i : Instance) → Sound d p i × Watches i → (n : ℕ) → action_fits task (action_of (grounding d p) n i) ≡ true
  action-fits i k n = and_in _ _ (and_in _ _ (and_in _ _ (and_in _ _ (instance-of n i k.0) (bounds-short i k.0)) (bounds-fit i)) (condition-fits d p ok task over i k.0 OverAll))
      (le_in (length (action_condition (grounding d p) (parts_at OverAll (conditions_of (world d p) i))).comparisons) 8 k.1)

  pub actions-fit : (is : List Instance) → Each (Sound d p) is → Each (λ a. length a.over_all.comparisons ≤ 8) (numbered_actions (grounding d p) 0 is)
      → list_all (action_fits task) (numbered_actions (grounding d p) 0 is) ≡ true
  actions-fit is h l = all_in (action_fits task) (numbered_actions (grounding d p) 0 is)
      (each-numbered (λ a. action_fits task a ≡ true) (grounding d p) 0 is
      (each_weaker (λ i. Sound d p i × Watches i) (λ i. (n : ℕ) → action_fits task (action_of (grounding d p) n i) ≡ true) action-fits is
      (each_both (Sound d p) Watches is h (numbered-each (λ a. length a.over_all.comparisons ≤ 8) Watches (grounding d p) (λ m i w. w) 0 is l))))

  -- ---- snap actions

  snap-fits : (i : Instance) → Sound d p i → (a : ℕ) → nat_lt a (length task.actions) ≡ true → (kind : SnapKind) → is_timed kind ≡ false → (s : Stage) (rates : List (ℕ × ℚ))
      → (is_start_or_end kind ≡ true) ⊎ (is_durative i.action.body ≡ false)
      → is_twice (flat_map (assigned_by (world d p) (env_of i)) (parts_at s (changes i.action))) ≡ false
      → are_below (length task.fluents) (map (λ r. r.0) rates) ≡ true → (is_start kind || is_empty rates) ≡ true
      → snap_fits task (snap_of (grounding d p) a i kind s rates) ≡ true
  snap-fits i k a below kind timed s rates compat once low start =
      and_in _ _ (and_in _ _ (and_in _ _ (and_in _ _ (and_in _ _ (and_in _ _
      (condition-fits d p ok task over i k s)
      (effect-fits d p ok task over i k kind (is_durative i.action.body) compat s))
      (assigned-distinct d p ok task over i k kind (is_durative i.action.body) compat s once))
      low) start)
      (ap (λ b. not b || changes_facts_alone (snap_of (grounding d p) a i kind s rates)) timed)) below

  pub instance-snaps : (i : Instance) → Sound d p i → (a : ℕ) → nat_lt a (length task.actions) ≡ true → Each (λ s. snap_fits task s ≡ true) (snaps_of (grounding d p) a i)
  instance-snaps i k a below = by (is_durative i.action.body) refl
    where
      by : (b : Bool) → is_durative i.action.body ≡ b → Each (λ s. snap_fits task s ≡ true)
          (if b then (snap_of (grounding d p) a i snap.Start AtStart (flat_map (λ c. fluent_rates (grounding d p) (env_of i) c.part) (changes i.action)) ∷ snap_of (grounding d p) a i snap.End AtEnd [] ∷ [])
          else (snap_of (grounding d p) a i snap.Instant AtStart [] ∷ []))
      by true e = (
        snap-fits i k a below snap.Start refl AtStart (flat_map (λ c. fluent_rates (grounding d p) (env_of i) c.part) (changes i.action)) (inl refl)
            (or_false_left _ _ (kept-assigns d p ok task over i k)) (rates-below d p ok task over i k) refl,
        (snap-fits i k a below snap.End refl AtEnd [] (inl refl) (or_false_right _ _ (kept-assigns d p ok task over i k)) refl refl, tt),
      )
      by false e = (snap-fits i k a below snap.Instant refl AtStart [] (inr e) (or_false_left _ _ (kept-assigns d p ok task over i k)) refl refl, tt)

  pub snaps-fit : (is : List Instance) → Each (Sound d p) is → length task.actions ≡ length is → Each (λ s. snap_fits task s ≡ true) (action_snaps (grounding d p) is)
  snaps-fit is h l = each_flat_map (λ s. snap_fits task s ≡ true) (λ x. snaps_of (grounding d p) x.0 x.1) (enumerate_from 0 is)
      (each_weaker (λ x. Sound d p x.1 × (nat_lt x.0 (length task.actions) ≡ true)) (λ x. Each (λ s. snap_fits task s ≡ true) (snaps_of (grounding d p) x.0 x.1))
      (λ x k. instance-snaps x.1 k.0 x.0 k.1) (enumerate_from 0 is)
      (each_both (λ x. Sound d p x.1) (λ x. nat_lt x.0 (length task.actions) ≡ true) (enumerate_from 0 is) (each_enumerated (Sound d p) 0 is h) (each_number 0 (length task.actions) is (omega arith))))
