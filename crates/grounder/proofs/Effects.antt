-- The effects and rates of kept bindings are within the task, and no fluent is assigned twice.
use Rattle.std.proofs.Common.{◌≡◌, ◌⊎◌, inl, inr, refl, sym, ap, ap₂, subst, ◌∙◌, ℕ, suc, ◌+◌, ◌≤◌, arith, Bool, true, false, not, ◌||◌, ◌==◌, nat_lt, List, [], ◌∷◌, ◌++◌, map, cond, length}
use Rattle.std.specs.Prelude.{if◌then◌else◌}
use Rattle.std.specs.List.{AllByRecursion as Each, flat_map, filter, list_any}
use Rattle.std.specs.Str.{bytes_eq}
use Rattle.std.specs.declared.cmp.Ordering.{Ordering}
use Rattle.std.specs.declared.cmp.Ordering.TheVariants as ordering
use Rattle.std.specs.Ordering.{MatchOrdering}
use Rattle.std.proofs.lemmas.List.{length-map, length-append, map-append}
use Rattle.basics.proofs.Bools.{and_left, and_right, and_in, or_left, or_right, not_true, or_false_left, or_false_right}
use Rattle.basics.proofs.Naturals.{le_in, le_out, same_out}
use Rattle.basics.proofs.Lists.{all_in, all_out, all_right, each_map}
use Rattle.rational.specs.Rational.{zeroℚ, cmp_ℚ, ◌<ℚ◌}
use Rattle.rational.proofs.Comparisons.{cmp_ranks}
use Rattle.rational.proofs.Order.{lt_irrefl}
use Rattle.exact_lin.specs.Forms.{LinearForm, IsForm, coefficient}
use Rattle.task_types.specs.declared.actions.SnapKind.{SnapKind}
use Rattle.task_types.specs.declared.conditions.Amount.{Amount}
use Rattle.task_types.specs.declared.parts.TaskParts.{TaskParts}
use Rattle.task_types.specs.Tests.{is_equal, ◌=?◌}
use Rattle.task_types.specs.Sets.{is_in, are_distinct}
use Rattle.task_types.specs.Touch.{is_start_or_end}
use Rattle.task_types.specs.WellMade.{are_below, amount_fits, changes_fit, effect_fits}
use Rattle.pddl_terms.specs.declared.trees.Atom.{Atom}
use Rattle.pddl_terms.specs.declared.trees.ChangeKind.TheVariants.{Increase, Decrease, Assign}
use Rattle.pddl_terms.specs.declared.trees.ExprTree.{ExprTree}
use Rattle.pddl_terms.specs.declared.trees.RateTree.TheVariants as rate
use Rattle.pddl_terms.specs.declared.files.Domain.{Domain}
use Rattle.pddl_terms.specs.declared.files.Problem.{Problem}
use Rattle.pddl_names.specs.Declarations.{among}
use Rattle.pddl_names.proofs.Ways.{same_text, text_itself}
use Rattle.ground_world.specs.declared.changes.Stage.{Stage}
use Rattle.ground_world.specs.World.{GroundAtom, ground_atom, ground_fluent, number_in, same_atom}
use Rattle.ground_world.specs.Changes.{Staged, parts_at, same_stage, Change, Adds, Deletes, Moves, Flows, changes}
use Rattle.ground_world.specs.FirstState.{world, has_value}
use Rattle.ground_world.specs.Conditions.{body_bounds}
use Rattle.ground_world.specs.Expressions.{own_unknown, reckoned, mentioned, form_or_zero, negative}
use Rattle.grounder.specs.Instances.{Instance, env_of, conditions_of, tests_of, no_unknowns, change_mentions, test_mentions, reckons, assigned_by, is_twice, assigns_twice, is_kept}
use Rattle.grounder.specs.Terms.{part_atoms}
use Rattle.grounder.specs.Task.{Ground, grounding, fluent_number, amount, added_facts, deleted_facts, assigned_amounts, increased_amounts, effect, fluent_rates}
use Rattle.grounder.specs.Accepted.{is_binding, changed_atoms, IsAccepted}
use Rattle.grounder.proofs.Each.{each_weaker, each_flat_map, flat_map_each, each_filter}
use Rattle.grounder.proofs.Placing.{number-within}
use Rattle.grounder.proofs.FormFacts.{form-ascends, negative-ascends}
use Rattle.grounder.proofs.Kept.{Sound, IsChange}
use Rattle.grounder.proofs.WorldFacts.{fact-known, fluent-known, predicate-changes, function-changes}
use Rattle.grounder.proofs.Conditions.{IsOver, over_fluents-fits, atom-numbered}

-- ---- lists

flat-few : {X Y : Type 0} (f : X → List Y) → ((x : X) → length (f x) ≤ 1) → (xs : List X) → length (flat_map f xs) ≤ length xs
flat-few f h [] = omega arith
flat-few f h (x ∷ xs) =
    let own : length (f x) ≤ 1 = h x in
    let ih : length (flat_map f xs) ≤ length xs = flat-few f h xs in
    let e : length (f x ++ flat_map f xs) ≡ length (f x) + length (flat_map f xs) = length-append (f x) (flat_map f xs) in
    omega arith

few-at : {A : Type 0} (s : Stage) (xs : List (Staged A)) → length (parts_at s xs) ≤ length xs
few-at s [] = omega arith
few-at s (x ∷ xs) = by (same_stage x.stage s) (few-at s xs)
  where
    by : (b : Bool) → length (parts_at s xs) ≤ length xs → length (map (λ y. y.part) (cond b (x ∷ filter (λ y. same_stage y.stage s) xs) (filter (λ y. same_stage y.stage s) xs))) ≤ suc (length xs)
    by true h = omega arith
    by false h = omega arith

each-at : {A : Type 0} (P : A → Type 0) (s : Stage) (xs : List (Staged A)) → Each (λ x. P x.part) xs → Each P (parts_at s xs)
each-at P s xs h = each_map P (λ x. x.part) (filter (λ x. same_stage x.stage s) xs)
    (each_weaker (λ x. P x.part × (same_stage x.stage s ≡ true)) (λ x. P x.part) (λ x k. k.0) (filter (λ x. same_stage x.stage s) xs) (each_filter (λ x. P x.part) (λ x. same_stage x.stage s) xs h))

-- ---- numbers tell members apart

number-same : (atoms : List GroundAtom) (a b : GroundAtom) → among atoms a ≡ true → among atoms b ≡ true → number_in atoms a ≡ number_in atoms b → a ≡ b
number-same [] a b h k e = cc
number-same (x ∷ xs) a b h k e = by (bytes_eq a x) refl (bytes_eq b x) refl e (number-same xs a b)
  where
    by : (y : Bool) → bytes_eq a x ≡ y → (z : Bool) → bytes_eq b x ≡ z → cond (not y) (1 + number_in xs a) 0 ≡ cond (not z) (1 + number_in xs b) 0
        → (among xs a ≡ true → among xs b ≡ true → number_in xs a ≡ number_in xs b → a ≡ b) → a ≡ b
    by true s true t e m = same_text a x s ∙ sym (same_text b x t)
    by true s false t e m = absurd (omega arith)
    by false s true t e m = absurd (omega arith)
    by false s false t e m = m (sym (ap (λ c. c || among xs a) s) ∙ h) (sym (ap (λ c. c || among xs b) t) ∙ k) (omega arith)

number-apart : (atoms : List GroundAtom) (a : GroundAtom) (bs : List GroundAtom) → among atoms a ≡ true → Each (λ b. among atoms b ≡ true) bs
    → list_any (same_atom a) bs ≡ false → is_in (number_in atoms a) (map (number_in atoms) bs) ≡ false
number-apart atoms a [] h k e = refl
number-apart atoms a (b ∷ bs) h k e = by (number_in atoms b == number_in atoms a) refl (number-apart atoms a bs h k.1 (or_false_right (bytes_eq a b) (list_any (same_atom a) bs) e))
  where
    by : (z : Bool) → (number_in atoms b == number_in atoms a) ≡ z → is_in (number_in atoms a) (map (number_in atoms) bs) ≡ false → (z || is_in (number_in atoms a) (map (number_in atoms) bs)) ≡ false
    by true s m =
        let n : a ≡ b = sym (number-same atoms b a k.0 h (same_out (number_in atoms b) (number_in atoms a) s)) in
        let t : bytes_eq a b ≡ true = subst (λ x. bytes_eq a x ≡ true) n (text_itself a) in
        let f : bytes_eq a b ≡ false = or_false_left (bytes_eq a b) (list_any (same_atom a) bs) e in
        let c : true ≡ false = sym t ∙ f in cc
    by false s m = m

distinct-numbers : (atoms own : List GroundAtom) → Each (λ a. among atoms a ≡ true) own → is_twice own ≡ false → are_distinct (map (number_in atoms) own) ≡ true
distinct-numbers atoms [] h e = refl
distinct-numbers atoms (a ∷ own) h e = and_in _ _ (ap not (number-apart atoms a own h.0 h.1 (or_false_left (list_any (same_atom a) own) (is_twice own) e)))
    (distinct-numbers atoms own h.1 (or_false_right (list_any (same_atom a) own) (is_twice own) e))

pub zero-is : (zeroℚ =? zeroℚ) ≡ true
zero-is = go (cmp_ℚ zeroℚ zeroℚ) (cmp_ranks zeroℚ zeroℚ)
  where
    go : (o : Ordering) → MatchOrdering o (zeroℚ <ℚ zeroℚ) (zeroℚ ≡ zeroℚ) (zeroℚ <ℚ zeroℚ) → is_equal o ≡ true
    go ordering.Less m = absurd (lt_irrefl zeroℚ m)
    go ordering.Equal m = refl
    go ordering.Greater m = absurd (lt_irrefl zeroℚ m)

module _ (d : Domain) (p : Problem) (ok : IsAccepted d p) (task : TaskParts) (over : IsOver (grounding d p) task) (i : Instance) (k : Sound d p i) where
  abbrev g : Ground
  g = grounding d p

  -- what is known of a change
  record Told (c : Change) : Type 0 where
    change : IsChange d p c
    atoms : Each (λ a. is_binding (world d p) d.predicates a ≡ true) (changed_atoms (world d p) (env_of i) c)
    fluents : Each (λ f. has_value (world d p) f.1 ≡ true) (change_mentions (world d p) (env_of i) c)

  kept-reckons : reckons (world d p) i ≡ true
  unfolding is_kept
  kept-reckons = and_left _ _ (and_left _ _ k.kept)

  pub kept-assigns : assigns_twice (world d p) i ≡ false
  unfolding is_kept
  kept-assigns = not_true (assigns_twice (world d p) i) (and_right _ _ k.kept)

  changes-told : Each (λ c. Told c.part) (changes i.action)
  changes-told = go (changes i.action) k.changed
      (flat_map_each (λ a. is_binding (world d p) d.predicates a ≡ true) (λ c. changed_atoms (world d p) (env_of i) c.part) (changes i.action)
      (all_out (is_binding (world d p) d.predicates) (flat_map (λ c. changed_atoms (world d p) (env_of i) c.part) (changes i.action))
      (all_right (is_binding (world d p) d.predicates) (flat_map (λ x. part_atoms x.part) (conditions_of (world d p) i)) (flat_map (λ c. changed_atoms (world d p) (env_of i) c.part) (changes i.action)) k.atoms)))
      (flat_map_each (λ f. has_value (world d p) f.1 ≡ true) (λ c. change_mentions (world d p) (env_of i) c.part) (changes i.action)
      (all_out (λ f. has_value (world d p) f.1) (flat_map (λ c. change_mentions (world d p) (env_of i) c.part) (changes i.action))
      (all_right (λ f. has_value (world d p) f.1)
      (flat_map (λ l. mentioned (world d p) (env_of i) l.expression) (body_bounds i.action.body) ++ flat_map (test_mentions (world d p)) (tests_of (world d p) i))
      (flat_map (λ c. change_mentions (world d p) (env_of i) c.part) (changes i.action)) (and_right _ _ kept-reckons))))
    where
      go : (cs : List (Staged Change)) → Each (λ c. IsChange d p c.part) cs → Each (λ c. Each (λ a. is_binding (world d p) d.predicates a ≡ true) (changed_atoms (world d p) (env_of i) c.part)) cs
          → Each (λ c. Each (λ f. has_value (world d p) f.1 ≡ true) (change_mentions (world d p) (env_of i) c.part)) cs → Each (λ c. Told c.part) cs
      go [] a b c = tt
      go (x ∷ xs) a b c = (record { change = a.0; atoms = b.0; fluents = c.0 }, go xs a.1 b.1 c.1)

  stage-told : (s : Stage) → Each Told (parts_at s (changes i.action))
  stage-told s = each-at Told s (changes i.action) changes-told

  -- ---- facts

  added : (c : Change) → Told c → Each (λ x. nat_lt x (length task.facts) ≡ true) (added_facts g (env_of i) c)
  added (Adds a) t = (atom-numbered g task over (ground_atom (world d p) (env_of i) a) (fact-known d p ok (ground_atom (world d p) (env_of i) a) t.atoms.0 (predicate-changes d p a.name.bytes t.change.predicates.0)), tt)
  added (Deletes a) t = tt
  added (Moves kind f e) t = tt
  added (Flows trend f r) t = tt

  deleted : (c : Change) → Told c → Each (λ x. nat_lt x (length task.facts) ≡ true) (deleted_facts g (env_of i) c)
  deleted (Adds a) t = tt
  deleted (Deletes a) t = (atom-numbered g task over (ground_atom (world d p) (env_of i) a) (fact-known d p ok (ground_atom (world d p) (env_of i) a) t.atoms.0 (predicate-changes d p a.name.bytes t.change.predicates.0)), tt)
  deleted (Moves kind f e) t = tt
  deleted (Flows trend f r) t = tt

  -- ---- fluents

  fluent-numbered : (f : Atom) → among (world d p).fluents (ground_fluent (world d p) (env_of i) f) ≡ true → nat_lt (fluent_number g (ground_fluent (world d p) (env_of i) f)) (length task.fluents) ≡ true
  fluent-numbered f h = ap (λ n. nat_lt (fluent_number g (ground_fluent (world d p) (env_of i) f)) n) over.fluents ∙ number-within (world d p).fluents (ground_fluent (world d p) (env_of i) f) h

  abbrev Fits : SnapKind → ℕ × Amount → Type 0
  Fits kind e = (nat_lt e.0 (length task.fluents) ≡ true) × (amount_fits task kind e.1 ≡ true)

  amount-fits : (kind : SnapKind) (durative : Bool) → (is_start_or_end kind ≡ true) ⊎ (durative ≡ false) → (f : LinearForm) → IsForm f → amount_fits task kind (amount g durative f) ≡ true
  amount-fits kind durative c f a = and_in _ _ (over_fluents-fits g task over f a) (by c)
    where
      none : (b : Bool) → b ≡ false → ((if b then coefficient f.terms (own_unknown (world d p)) else zeroℚ) =? zeroℚ) ≡ true
      none true e = cc
      none false e = zero-is

      by : (is_start_or_end kind ≡ true) ⊎ (durative ≡ false) → (is_start_or_end kind || ((if durative then coefficient f.terms (own_unknown (world d p)) else zeroℚ) =? zeroℚ)) ≡ true
      by (inl e) = or_left _ _ e
      by (inr e) = or_right (is_start_or_end kind) _ (none durative e)

  module _ (kind : SnapKind) (durative : Bool) (compat : (is_start_or_end kind ≡ true) ⊎ (durative ≡ false)) where
    reckoned-fits : (e : ExprTree) → amount_fits task kind (amount g durative (form_or_zero (reckoned (world d p) no_unknowns (env_of i) e))) ≡ true
    reckoned-fits e = amount-fits kind durative compat (form_or_zero (reckoned (world d p) no_unknowns (env_of i) e)) (form-ascends (world d p) no_unknowns (env_of i) e)

    moved : (f : Atom) (e : ExprTree) (a : Amount) → among (world d p).fluents (ground_fluent (world d p) (env_of i) f) ≡ true → amount_fits task kind a ≡ true
        → Each (Fits kind) ((fluent_number g (ground_fluent (world d p) (env_of i) f), a) ∷ [])
    moved f e a h k = ((fluent-numbered f h, k), tt)

    assigned : (c : Change) → Told c → Each (Fits kind) (assigned_amounts g durative (env_of i) c)
    assigned (Adds a) t = tt
    assigned (Deletes a) t = tt
    assigned (Moves Increase f e) t = tt
    assigned (Moves Decrease f e) t = tt
    assigned (Moves Assign f e) t = moved f e (amount g durative (form_or_zero (reckoned (world d p) no_unknowns (env_of i) e)))
        (fluent-known d p ok (ground_fluent (world d p) (env_of i) f) t.fluents.0 (function-changes d p f.name.bytes t.change.functions.0)) (reckoned-fits e)
    assigned (Flows trend f r) t = tt

    increased : (c : Change) → Told c → Each (Fits kind) (increased_amounts g durative (env_of i) c)
    increased (Adds a) t = tt
    increased (Deletes a) t = tt
    increased (Moves Increase f e) t = moved f e (amount g durative (form_or_zero (reckoned (world d p) no_unknowns (env_of i) e)))
        (fluent-known d p ok (ground_fluent (world d p) (env_of i) f) t.fluents.0 (function-changes d p f.name.bytes t.change.functions.0)) (reckoned-fits e)
    increased (Moves Decrease f e) t = moved f e (amount g durative (negative (form_or_zero (reckoned (world d p) no_unknowns (env_of i) e))))
        (fluent-known d p ok (ground_fluent (world d p) (env_of i) f) t.fluents.0 (function-changes d p f.name.bytes t.change.functions.0))
        (amount-fits kind durative compat (negative (form_or_zero (reckoned (world d p) no_unknowns (env_of i) e))) (negative-ascends (form_or_zero (reckoned (world d p) no_unknowns (env_of i) e))))
    increased (Moves Assign f e) t = tt
    increased (Flows trend f r) t = tt

    few-changes : (s : Stage) → length (parts_at s (changes i.action)) ≤ 1048576
    few-changes s =
        let a : length (parts_at s (changes i.action)) ≤ length (changes i.action) = few-at s (changes i.action) in
        let b : length (changes i.action) ≤ 1048576 = le_out (length (changes i.action)) 1048576 (and_right _ _ k.small) in
        omega arith

    facts-below : (s : Stage) (f : Change → List ℕ) → ((c : Change) → length (f c) ≤ 1) → ((c : Change) → Told c → Each (λ x. nat_lt x (length task.facts) ≡ true) (f c))
        → are_below (length task.facts) (flat_map f (parts_at s (changes i.action))) ≡ true
    facts-below s f few h = and_in _ _
        (le_in (length (flat_map f (parts_at s (changes i.action)))) 1048576
        (let a : length (flat_map f (parts_at s (changes i.action))) ≤ length (parts_at s (changes i.action)) = flat-few f few (parts_at s (changes i.action)) in
        let b : length (parts_at s (changes i.action)) ≤ 1048576 = few-changes s in omega arith))
        (all_in (λ x. nat_lt x (length task.facts)) (flat_map f (parts_at s (changes i.action)))
        (each_flat_map (λ x. nat_lt x (length task.facts) ≡ true) f (parts_at s (changes i.action))
        (each_weaker Told (λ c. Each (λ x. nat_lt x (length task.facts) ≡ true) (f c)) h (parts_at s (changes i.action)) (stage-told s))))

    amounts-fit : (s : Stage) (f : Change → List (ℕ × Amount)) → ((c : Change) → length (f c) ≤ 1) → ((c : Change) → Told c → Each (Fits kind) (f c))
        → changes_fit task kind (flat_map f (parts_at s (changes i.action))) ≡ true
    amounts-fit s f few h = and_in _ _
        (and_in _ _ (le_in (length (map (λ e. e.0) (flat_map f (parts_at s (changes i.action))))) 1048576
        (let m : length (map (λ e. e.0) (flat_map f (parts_at s (changes i.action)))) ≡ length (flat_map f (parts_at s (changes i.action))) = length-map (flat_map f (parts_at s (changes i.action))) (λ e. e.0) in
        let a : length (flat_map f (parts_at s (changes i.action))) ≤ length (parts_at s (changes i.action)) = flat-few f few (parts_at s (changes i.action)) in
        let b : length (parts_at s (changes i.action)) ≤ 1048576 = few-changes s in omega arith))
        (all_in (λ x. nat_lt x (length task.fluents)) (map (λ e. e.0) (flat_map f (parts_at s (changes i.action))))
        (each_map (λ x. nat_lt x (length task.fluents) ≡ true) (λ e. e.0) (flat_map f (parts_at s (changes i.action)))
        (each_weaker (Fits kind) (λ e. nat_lt e.0 (length task.fluents) ≡ true) (λ e t. t.0) (flat_map f (parts_at s (changes i.action))) fitting))))
        (all_in (λ e. amount_fits task kind e.1) (flat_map f (parts_at s (changes i.action)))
        (each_weaker (Fits kind) (λ e. amount_fits task kind e.1 ≡ true) (λ e t. t.1) (flat_map f (parts_at s (changes i.action))) fitting))
      where
        fitting : Each (Fits kind) (flat_map f (parts_at s (changes i.action)))
        fitting = each_flat_map (Fits kind) f (parts_at s (changes i.action)) (each_weaker Told (λ c. Each (Fits kind) (f c)) h (parts_at s (changes i.action)) (stage-told s))

    one-added : (c : Change) → length (added_facts g (env_of i) c) ≤ 1
    one-added (Adds a) = omega arith
    one-added (Deletes a) = omega arith
    one-added (Moves q f e) = omega arith
    one-added (Flows t f r) = omega arith

    one-deleted : (c : Change) → length (deleted_facts g (env_of i) c) ≤ 1
    one-deleted (Adds a) = omega arith
    one-deleted (Deletes a) = omega arith
    one-deleted (Moves q f e) = omega arith
    one-deleted (Flows t f r) = omega arith

    one-assigned : (c : Change) → length (assigned_amounts g durative (env_of i) c) ≤ 1
    one-assigned (Adds a) = omega arith
    one-assigned (Deletes a) = omega arith
    one-assigned (Moves Increase f e) = omega arith
    one-assigned (Moves Decrease f e) = omega arith
    one-assigned (Moves Assign f e) = omega arith
    one-assigned (Flows t f r) = omega arith

    one-increased : (c : Change) → length (increased_amounts g durative (env_of i) c) ≤ 1
    one-increased (Adds a) = omega arith
    one-increased (Deletes a) = omega arith
    one-increased (Moves Increase f e) = omega arith
    one-increased (Moves Decrease f e) = omega arith
    one-increased (Moves Assign f e) = omega arith
    one-increased (Flows t f r) = omega arith

    pub effect-fits : (s : Stage) → effect_fits task kind (effect g durative (env_of i) (parts_at s (changes i.action))) ≡ true
    effect-fits s = and_in _ _ (and_in _ _ (and_in _ _ (facts-below s (added_facts g (env_of i)) one-added added) (facts-below s (deleted_facts g (env_of i)) one-deleted deleted))
        (amounts-fit s (assigned_amounts g durative (env_of i)) one-assigned assigned)) (amounts-fit s (increased_amounts g durative (env_of i)) one-increased increased)

    -- ---- what is assigned

    same-assigned : (c : Change) → map (λ e. e.0) (assigned_amounts g durative (env_of i) c) ≡ map (number_in (world d p).fluents) (assigned_by (world d p) (env_of i) c)
    same-assigned (Adds a) = refl
    same-assigned (Deletes a) = refl
    same-assigned (Moves Increase f e) = refl
    same-assigned (Moves Decrease f e) = refl
    same-assigned (Moves Assign f e) = refl
    same-assigned (Flows t f r) = refl

    same-all : (cs : List Change) → map (λ e. e.0) (flat_map (assigned_amounts g durative (env_of i)) cs) ≡ map (number_in (world d p).fluents) (flat_map (assigned_by (world d p) (env_of i)) cs)
    same-all [] = refl
    same-all (c ∷ cs) = map-append (λ e. e.0) (assigned_amounts g durative (env_of i) c) (flat_map (assigned_amounts g durative (env_of i)) cs)
        ∙ ap₂ (λ xs ys. xs ++ ys) (same-assigned c) (same-all cs)
        ∙ sym (map-append (number_in (world d p).fluents) (assigned_by (world d p) (env_of i) c) (flat_map (assigned_by (world d p) (env_of i)) cs))

    known-assigned : (c : Change) → Told c → Each (λ f. among (world d p).fluents f ≡ true) (assigned_by (world d p) (env_of i) c)
    known-assigned (Adds a) t = tt
    known-assigned (Deletes a) t = tt
    known-assigned (Moves Increase f e) t = tt
    known-assigned (Moves Decrease f e) t = tt
    known-assigned (Moves Assign f e) t = (fluent-known d p ok (ground_fluent (world d p) (env_of i) f) t.fluents.0 (function-changes d p f.name.bytes t.change.functions.0), tt)
    known-assigned (Flows t f r) u = tt

    pub assigned-distinct : (s : Stage) → is_twice (flat_map (assigned_by (world d p) (env_of i)) (parts_at s (changes i.action))) ≡ false
        → are_distinct (map (λ e. e.0) (flat_map (assigned_amounts g durative (env_of i)) (parts_at s (changes i.action)))) ≡ true
    assigned-distinct s h = subst (λ xs. are_distinct xs ≡ true) (sym (same-all (parts_at s (changes i.action))))
        (distinct-numbers (world d p).fluents (flat_map (assigned_by (world d p) (env_of i)) (parts_at s (changes i.action)))
        (each_flat_map (λ f. among (world d p).fluents f ≡ true) (assigned_by (world d p) (env_of i)) (parts_at s (changes i.action))
        (each_weaker Told (λ c. Each (λ f. among (world d p).fluents f ≡ true) (assigned_by (world d p) (env_of i) c)) known-assigned (parts_at s (changes i.action)) (stage-told s))) h)

  -- ---- rates

  flowing : (c : Change) → Told c → Each (λ r. nat_lt r.0 (length task.fluents) ≡ true) (fluent_rates g (env_of i) c)
  flowing (Adds a) t = tt
  flowing (Deletes a) t = tt
  flowing (Moves q f e) t = tt
  flowing (Flows trend f (rate.One a)) t = (fluent-numbered f (fluent-known d p ok (ground_fluent (world d p) (env_of i) f) t.fluents.0 (function-changes d p f.name.bytes t.change.functions.0)), tt)
  flowing (Flows trend f (rate.Times a e)) t = (fluent-numbered f (fluent-known d p ok (ground_fluent (world d p) (env_of i) f) t.fluents.0 (function-changes d p f.name.bytes t.change.functions.0)), tt)
  flowing (Flows trend f (rate.LeftOut a)) t = (fluent-numbered f (fluent-known d p ok (ground_fluent (world d p) (env_of i) f) t.fluents.0 (function-changes d p f.name.bytes t.change.functions.0)), tt)

  one-rate : (c : Change) → length (fluent_rates g (env_of i) c) ≤ 1
  one-rate (Adds a) = omega arith
  one-rate (Deletes a) = omega arith
  one-rate (Moves q f e) = omega arith
  one-rate (Flows t f r) = omega arith

  pub rates-below : are_below (length task.fluents) (map (λ r. r.0) (flat_map (λ c. fluent_rates g (env_of i) c.part) (changes i.action))) ≡ true
  rates-below = and_in _ _
      (le_in (length (map (λ r. r.0) (flat_map (λ c. fluent_rates g (env_of i) c.part) (changes i.action)))) 1048576
      (let m : length (map (λ r. r.0) (flat_map (λ c. fluent_rates g (env_of i) c.part) (changes i.action))) ≡ length (flat_map (λ c. fluent_rates g (env_of i) c.part) (changes i.action)) = length-map (flat_map (λ c. fluent_rates g (env_of i) c.part) (changes i.action)) (λ r. r.0) in
      let a : length (flat_map (λ c. fluent_rates g (env_of i) c.part) (changes i.action)) ≤ length (changes i.action) = flat-few (λ c. fluent_rates g (env_of i) c.part) (λ c. one-rate c.part) (changes i.action) in
      let b : length (changes i.action) ≤ 1048576 = le_out (length (changes i.action)) 1048576 (and_right _ _ k.small) in omega arith))
      (all_in (λ x. nat_lt x (length task.fluents)) (map (λ r. r.0) (flat_map (λ c. fluent_rates g (env_of i) c.part) (changes i.action)))
      (each_map (λ x. nat_lt x (length task.fluents) ≡ true) (λ r. r.0) (flat_map (λ c. fluent_rates g (env_of i) c.part) (changes i.action))
      (each_flat_map (λ r. nat_lt r.0 (length task.fluents) ≡ true) (λ c. fluent_rates g (env_of i) c.part) (changes i.action)
      (each_weaker (λ c. Told c.part) (λ c. Each (λ r. nat_lt r.0 (length task.fluents) ≡ true) (fluent_rates g (env_of i) c.part)) (λ c t. flowing c.part t) (changes i.action) changes-told))))
