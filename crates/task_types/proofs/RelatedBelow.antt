-- What a snap action of a well made task is related to is in the task, so the tables that lead back tell all of it.
use Rattle.std.proofs.Common.{◌≡◌, refl, sym, ap, ◌∙◌, ℕ, zero, suc, ◌<◌, ◌≤◌, Bool, true, false, cond, ◌&&◌, ◌==◌, List, [], ◌∷◌, ◌++◌, length, map, arith, Some, None, Option, ⊎_elim, inl, inr}
use Rattle.std.specs.Prelude.{slice_index_or, nat_lt, option_to_list, ◌⊎◌}
use Rattle.std.specs.List.{list_all, filter, flat_map}
use Rattle.std.proofs.lemmas.Bool.Decides.{nat_tests}
use native.Mathlib.Decide.{dec_lt}
use Rattle.exact_lin.specs.Forms.{LinearForm}
use Rattle.std.proofs.lemmas.List.{get_or_past}
use Rattle.task_types.specs.declared.actions.Action.{Action}
use Rattle.task_types.specs.declared.actions.Bound.{Bound}
use Rattle.task_types.specs.declared.actions.Snap.{Snap}
use Rattle.task_types.specs.declared.actions.SnapKind.{SnapKind}
use Rattle.task_types.specs.declared.conditions.Amount.{Amount}
use Rattle.task_types.specs.declared.conditions.Condition.{Condition}
use Rattle.task_types.specs.declared.parts.TaskParts.{TaskParts}
use Rattle.task_types.specs.declared.touches.relations.Relation.{Relation}
use Rattle.task_types.specs.declared.touches.relations.Relation.TheVariants.{LookedFacts, ChangedFacts, LookedFluents, WrittenFluents, BentFluents, OwnAction}
use Rattle.task_types.specs.Sets.{is_in}
use Rattle.task_types.specs.Plan.{action_of, snap_of, no_action, no_snap}
use Rattle.task_types.specs.Clash.{form_fluents, condition_facts, condition_fluents, is_read_at, own_action, read_bounds, read_fluents, assigned_fluents}
use Rattle.task_types.specs.Touch.{is_start_or_end, started_or_ended, watches}
use Rattle.task_types.specs.WellMade.{IsWellMade, is_short, are_below, form_fits, forms_fit, condition_fits, amount_fits, changes_fit, effect_fits, snap_fits, action_fits, is_action}
use Rattle.task_types.specs.Related.{related, related_count, LeadsBack, Tells}
use Rattle.basics.proofs.Bools.{and_left, and_right, and_in}
use Rattle.basics.proofs.Lists.{all_append, all_weaker}
use Rattle.task_types.proofs.Assigning.{all_read, snap_of_fits}

abbrev pub Below : ℕ → List ℕ → Type 0
Below n xs = list_all (λ x. nat_lt x n) xs ≡ true

below_append : (n : ℕ) (xs ys : List ℕ) → Below n xs → Below n ys → Below n (xs ++ ys)
below_append n xs ys h k = all_append (λ x. nat_lt x n) xs ys h k

below_flat : {Z : Type 0} (n : ℕ) (p : Z → Bool) (f : Z → List ℕ) → ((z : Z) → p z ≡ true → Below n (f z)) → (zs : List Z) → list_all p zs ≡ true → Below n (flat_map f zs)
below_flat n p f g [] h = refl
below_flat n p f g (z ∷ zs) h = below_append n (f z) (flat_map f zs) (g z (and_left (p z) (list_all p zs) h)) (below_flat n p f g zs (and_right (p z) (list_all p zs) h))

all_filter : {Z : Type 0} (p q : Z → Bool) (zs : List Z) → list_all p zs ≡ true → list_all p (filter q zs) ≡ true
all_filter p q [] h = refl
all_filter p q (z ∷ zs) h = go (q z) (all_filter p q zs (and_right (p z) (list_all p zs) h))
  where
    go : (b : Bool) → list_all p (filter q zs) ≡ true → list_all p (cond b (z ∷ filter q zs) (filter q zs)) ≡ true
    go true r = and_in (p z) (list_all p (filter q zs)) (and_left (p z) (list_all p zs) h) r
    go false r = r

below_of : (n : ℕ) (xs : List ℕ) → are_below n xs ≡ true → Below n xs
below_of n xs h = and_right (is_short xs) (list_all (λ x. nat_lt x n) xs) h

module _ (task : TaskParts) where
  form_below : (form : LinearForm) → form_fits task form ≡ true → Below (length task.fluents) (form_fluents form)
  form_below form h = below_of (length task.fluents) (form_fluents form) h

  facts_below : (c : Condition) → condition_fits task c ≡ true → Below (length task.facts) (condition_facts c)
  facts_below c h = below_of (length task.facts) (condition_facts c) (and_left (are_below (length task.facts) (condition_facts c)) (forms_fit task c.comparisons) h)

  fluents_below : (c : Condition) → condition_fits task c ≡ true → Below (length task.fluents) (condition_fluents c)
  fluents_below c h = below_flat (length task.fluents) (form_fits task) form_fluents form_below c.comparisons
      (and_right (is_short c.comparisons) (list_all (form_fits task) c.comparisons) (and_right (are_below (length task.facts) (condition_facts c)) (forms_fit task c.comparisons) h))

  amounts_below : (kind : SnapKind) (changes : List (ℕ × Amount)) → changes_fit task kind changes ≡ true → Below (length task.fluents) (flat_map (λ e. form_fluents e.1.form) changes)
  amounts_below kind changes h = below_flat (length task.fluents) (λ e. amount_fits task kind e.1) (λ e. form_fluents e.1.form) (λ e k. form_below e.1.form (and_left _ _ k)) changes (and_right _ _ h)

  changed_below : (kind : SnapKind) (changes : List (ℕ × Amount)) → changes_fit task kind changes ≡ true → Below (length task.fluents) (map (λ e. e.0) changes)
  changed_below kind changes h = below_of (length task.fluents) (map (λ e. e.0) changes) (and_left _ _ h)

  -- what an action reads all the while, and for its duration
  reads_fit : Action → Bool
  reads_fit a = condition_fits task a.over_all && list_all (λ b. form_fits task b.form) a.bounds

  action_reads_fit : (a : Action) → action_fits task a ≡ true → reads_fit a ≡ true
  unfolding reads_fit
  action_reads_fit a h = and_in (condition_fits task a.over_all) (list_all (λ b. form_fits task b.form) a.bounds) (and_right _ _ (and_left _ _ h)) (and_right _ _ (and_left _ _ (and_left _ _ h)))

  module _ (w : IsWellMade task) where
    action_of_fits : (a : ℕ) → reads_fit (action_of task a) ≡ true
    unfolding reads_fit
    action_of_fits a = all_read reads_fit no_action refl task.actions (all_weaker (action_fits task) reads_fit action_reads_fit task.actions (and_right (is_short task.actions) (list_all (action_fits task) task.actions) w.actions)) a

    over_all_fits : (a : ℕ) → condition_fits task (action_of task a).over_all ≡ true
    unfolding reads_fit
    over_all_fits a = and_left (condition_fits task (action_of task a).over_all) (list_all (λ b. form_fits task b.form) (action_of task a).bounds) (action_of_fits a)

    bounds_fit : (a : ℕ) → list_all (λ b. form_fits task b.form) (action_of task a).bounds ≡ true
    unfolding reads_fit
    bounds_fit a = and_right (condition_fits task (action_of task a).over_all) (list_all (λ b. form_fits task b.form) (action_of task a).bounds) (action_of_fits a)

    watched_fit : (as_ : List ℕ) → list_all (condition_fits task) (map (λ a. (action_of task a).over_all) as_) ≡ true
    watched_fit [] = refl
    watched_fit (a ∷ rest) = and_in (condition_fits task (action_of task a).over_all) (list_all (condition_fits task) (map (λ a. (action_of task a).over_all) rest)) (over_all_fits a) (watched_fit rest)

    own_bounds_fit : (ids : List ℕ) → list_all (λ b. form_fits task b.form) (flat_map (λ (a : Action). a.bounds) (map (action_of task) ids)) ≡ true
    own_bounds_fit [] = refl
    own_bounds_fit (a ∷ rest) = all_append (λ (b : Bound). form_fits task b.form) (action_of task a).bounds (flat_map (λ (a : Action). a.bounds) (map (action_of task) rest)) (bounds_fit a) (own_bounds_fit rest)

    bounds_below : (s : Snap) → Below (length task.fluents) (flat_map (λ b. form_fluents b.form) (read_bounds task s))
    bounds_below s = below_flat (length task.fluents) (λ b. form_fits task b.form) (λ b. form_fluents b.form) (λ b. form_below b.form) (read_bounds task s)
        (all_filter (λ b. form_fits task b.form) (is_read_at s.kind) (flat_map (λ a. a.bounds) (own_action task s)) (own_bounds_fit (option_to_list s.action)))

    own_below : (kind : SnapKind) (a : Option ℕ) → is_action task a ≡ true → Below (length task.actions) (filter (λ a. is_start_or_end kind) (option_to_list a))
    own_below kind None h = refl
    own_below kind (Some a) h = go (is_start_or_end kind)
      where
        go : (b : Bool) → Below (length task.actions) (cond b (a ∷ []) [])
        go true = and_in (nat_lt a (length task.actions)) true h refl
        go false = refl

    rates_below : (s : Snap) → snap_fits task s ≡ true → Below (length task.fluents) (map (λ r. r.0) s.rates)
    rates_below s h = below_of (length task.fluents) (map (λ r. r.0) s.rates) (and_right _ _ (and_left _ _ (and_left _ _ (and_left _ _ h))))

    bent_below : (ids : List ℕ) → Below (length task.fluents) (flat_map (λ a. map (λ r. r.0) (snap_of task (action_of task a).start).rates) ids)
    bent_below [] = refl
    bent_below (a ∷ rest) = below_append (length task.fluents) (map (λ r. r.0) (snap_of task (action_of task a).start).rates) (flat_map (λ a. map (λ r. r.0) (snap_of task (action_of task a).start).rates) rest)
        (rates_below (snap_of task (action_of task a).start) (snap_of_fits task (and_right (is_short task.snaps) (list_all (snap_fits task) task.snaps) w.snaps) (action_of task a).start)) (bent_below rest)

    condition_ok : (s : Snap) → snap_fits task s ≡ true → condition_fits task s.condition ≡ true
    condition_ok s h = and_left _ _ (and_left _ _ (and_left _ _ (and_left _ _ (and_left _ _ (and_left _ _ h)))))

    effect_ok : (s : Snap) → snap_fits task s ≡ true → effect_fits task s.kind s.effect ≡ true
    effect_ok s h = and_right _ _ (and_left _ _ (and_left _ _ (and_left _ _ (and_left _ _ (and_left _ _ h)))))

    assigns_ok : (s : Snap) → snap_fits task s ≡ true → changes_fit task s.kind s.effect.assigns ≡ true
    assigns_ok s h = and_right (are_below (length task.facts) s.effect.adds && are_below (length task.facts) s.effect.deletes) (changes_fit task s.kind s.effect.assigns)
        (and_left (are_below (length task.facts) s.effect.adds && are_below (length task.facts) s.effect.deletes && changes_fit task s.kind s.effect.assigns) (changes_fit task s.kind s.effect.increases) (effect_ok s h))

    increases_ok : (s : Snap) → snap_fits task s ≡ true → changes_fit task s.kind s.effect.increases ≡ true
    increases_ok s h = and_right (are_below (length task.facts) s.effect.adds && are_below (length task.facts) s.effect.deletes && changes_fit task s.kind s.effect.assigns) (changes_fit task s.kind s.effect.increases) (effect_ok s h)

    adds_and_deletes : (s : Snap) → snap_fits task s ≡ true → (are_below (length task.facts) s.effect.adds && are_below (length task.facts) s.effect.deletes) ≡ true
    adds_and_deletes s h = and_left (are_below (length task.facts) s.effect.adds && are_below (length task.facts) s.effect.deletes) (changes_fit task s.kind s.effect.assigns)
        (and_left (are_below (length task.facts) s.effect.adds && are_below (length task.facts) s.effect.deletes && changes_fit task s.kind s.effect.assigns) (changes_fit task s.kind s.effect.increases) (effect_ok s h))

    amounts_of_both : (kind : SnapKind) (xs ys : List (ℕ × Amount)) → changes_fit task kind xs ≡ true → changes_fit task kind ys ≡ true → Below (length task.fluents) (flat_map (λ e. form_fluents e.1.form) (xs ++ ys))
    amounts_of_both kind xs ys h k = below_flat (length task.fluents) (λ (e : ℕ × Amount). amount_fits task kind e.1) (λ e. form_fluents e.1.form) (λ e m. form_below e.1.form (and_left _ _ m)) (xs ++ ys)
        (all_append (λ (e : ℕ × Amount). amount_fits task kind e.1) xs ys (and_right _ _ h) (and_right _ _ k))

    related_below : (r : Relation) (s : Snap) → snap_fits task s ≡ true → Below (related_count task r) (related task r s)
    related_below LookedFacts s h = below_append (length task.facts) (condition_facts s.condition) (flat_map condition_facts (watches task s)) (facts_below s.condition (condition_ok s h))
        (below_flat (length task.facts) (condition_fits task) condition_facts facts_below (watches task s) (watched_fit (started_or_ended s)))
    related_below ChangedFacts s h = below_append (length task.facts) s.effect.adds s.effect.deletes (below_of (length task.facts) s.effect.adds (and_left _ _ (adds_and_deletes s h))) (below_of (length task.facts) s.effect.deletes (and_right _ _ (adds_and_deletes s h)))
    related_below LookedFluents s h = below_append (length task.fluents) (read_fluents task s) (flat_map condition_fluents (watches task s))
        (below_append (length task.fluents) (condition_fluents s.condition ++ flat_map (λ e. form_fluents e.1.form) (s.effect.assigns ++ s.effect.increases)) (flat_map (λ b. form_fluents b.form) (read_bounds task s))
        (below_append (length task.fluents) (condition_fluents s.condition) (flat_map (λ e. form_fluents e.1.form) (s.effect.assigns ++ s.effect.increases)) (fluents_below s.condition (condition_ok s h)) (amounts_of_both s.kind s.effect.assigns s.effect.increases (assigns_ok s h) (increases_ok s h)))
        (bounds_below s))
        (below_flat (length task.fluents) (condition_fits task) condition_fluents fluents_below (watches task s) (watched_fit (started_or_ended s)))
    related_below WrittenFluents s h = below_append (length task.fluents) (assigned_fluents s) (map (λ e. e.0) s.effect.increases) (changed_below s.kind s.effect.assigns (assigns_ok s h)) (changed_below s.kind s.effect.increases (increases_ok s h))
    related_below BentFluents s h = bent_below (started_or_ended s)
    related_below OwnAction s h = own_below s.kind s.action (and_right _ _ h)

-- ---- the tables tell all

none_at_or_above : (n count : ℕ) (xs : List ℕ) → count ≤ n → Below count xs → is_in n xs ≡ false
none_at_or_above n count [] h k = refl
none_at_or_above n count (x ∷ xs) h k = rw (differs x n count (and_left (nat_lt x count) (list_all (λ x. nat_lt x count) xs) k) h) (none_at_or_above n count xs h (and_right (nat_lt x count) (list_all (λ x. nat_lt x count) xs) k))
  where
    differs : (x n count : ℕ) → nat_lt x count ≡ true → count ≤ n → (x == n) ≡ false
    differs x n count l m = grind (arith, nat_tests)

mapped_at : {X Y : Type 0} (f : X → Y) (xs : List X) (k : ℕ) (d : X) (e : Y) → f d ≡ e → slice_index_or (map f xs) k e ≡ f (slice_index_or xs k d)
mapped_at f [] k d e h = sym h
mapped_at f (x ∷ xs) zero d e h = refl
mapped_at f (x ∷ xs) (suc k) d e h = mapped_at f xs k d e h

no_snap-related : (task : TaskParts) (r : Relation) → related task r no_snap ≡ []
no_snap-related task LookedFacts = refl
no_snap-related task ChangedFacts = refl
no_snap-related task LookedFluents = refl
no_snap-related task WrittenFluents = refl
no_snap-related task BentFluents = refl
no_snap-related task OwnAction = refl

pub table-tells : (task : TaskParts) (r : Relation) (rows : List (List ℕ)) → IsWellMade task → LeadsBack rows (related_count task r) (map (related task r) task.snaps) → Tells task r rows
table-tells task r rows w b n s = ⊎_elim inside outside (split (dec_lt n (related_count task r)))
  where
    split : Dec (n < related_count task r) → (n < related_count task r) ⊎ (related_count task r ≤ n)
    split d = elim d [ yes p ↦ inl p | no p ↦ inr (omega arith) ]

    inside : n < related_count task r → is_in s (slice_index_or rows n []) ≡ is_in n (related task r (snap_of task s))
    inside h = b.each n s h ∙ ap (is_in n) (mapped_at (related task r) task.snaps s no_snap [] (no_snap-related task r))

    outside : related_count task r ≤ n → is_in s (slice_index_or rows n []) ≡ is_in n (related task r (snap_of task s))
    outside h = ap (is_in s) (get_or_past rows n [] (omega (arith, b.long)))
        ∙ sym (none_at_or_above n (related_count task r) (related task r (snap_of task s)) h (related_below task w r (snap_of task s) (snap_of_fits task (and_right (is_short task.snaps) (list_all (snap_fits task) task.snaps) w.snaps) s)))
