-- Steps whose times agree with what ties them need nothing else: earlier ones are independent of later ones that stand before them, and those of one moment may happen together.
use Rattle.std.proofs.Common.{◌≡◌, refl, sym, ap, ap₂, subst, ◌∙◌, ℕ, zero, suc, ◌+◌, ◌<◌, Bool, true, false, cond, ◌&&◌, ◌||◌, List, [], ◌∷◌, ◌++◌, map, length, arith, inl, inr}
use Rattle.std.specs.Prelude.{◌==◌, nat_lt, slice_index_or, ◌⊎◌, is_some}
use Rattle.std.specs.List.{list_any, list_all, filter, flat_map, enumerate_from, AllByRecursion}
use Rattle.rational.specs.Rational.{ℚ, ◌<ℚ◌, ◌≤ℚ◌}
use Rattle.rational.proofs.Order.{lt_irrefl}
use Rattle.rational.proofs.Inequalities.{lt_trans}
use Rattle.std.proofs.lemmas.List.Concat.{flat_map-append}
use Rattle.task_types.specs.declared.actions.Snap.{Snap}
use Rattle.task_types.specs.declared.conditions.Amount.{Amount}
use Rattle.task_types.specs.declared.parts.TaskParts.{TaskParts}
use Rattle.task_types.specs.declared.tokens.Token.{Token}
use Rattle.task_types.specs.declared.tokens.Token.TheVariants as token
use Rattle.task_types.specs.Sets.{is_in, are_several, numbers}
use Rattle.task_types.specs.Plan.{Step, snap_of, action_of, no_snap}
use Rattle.task_types.specs.Clash.{form_fluents, condition_fluents, assigned_fluents, increased_fluents, written_fluents, read_fluents, read_bounds, changed_facts}
use Rattle.task_types.specs.Touch.{started_or_ended, bent_fluents, snap_tracked, action_tracked, soft_fluents, tracked_fluents, looks, marks, bends, tokens, watches, comparison_tokens, trail_facts, soft_facts}
use Rattle.task_types.specs.Order.{touches, sets_apart, sets_order}
use Rattle.task_types.specs.WellMade.{snap_fits, are_below, is_short, effect_fits}
use Rattle.task_types.proofs.Comparisons.{lt_le_absurd}
use Rattle.task_types.proofs.Everyone.{and_left, and_right}
use Rattle.task_types.proofs.Places.{numbers-more}
use Rattle.ordering.specs.Along.{changes, changes_fact, Independent, Together, Agrees, AllAgree, tied_apart, tied_in_order, Follows, AreInOrder}
use Rattle.basics.proofs.Bools.{or_left, or_right, or_false_left, or_false_right}
use Rattle.basics.proofs.Naturals.{same_itself, same_out}
use Rattle.task_types.proofs.Assigning.{is_in-left}
use Rattle.task_types.proofs.SetApart.{in_right, below_out}

-- ---- membership

is_in-or : (f : ℕ) (xs ys : List ℕ) → is_in f (xs ++ ys) ≡ true → (is_in f xs ≡ true) ⊎ (is_in f ys ≡ true)
is_in-or f [] ys h = inr h
is_in-or f (x ∷ xs) ys h = go (x == f) (is_in-or f xs ys) h
  where
    go : (b : Bool) → (is_in f (xs ++ ys) ≡ true → (is_in f xs ≡ true) ⊎ (is_in f ys ≡ true)) → (b || is_in f (xs ++ ys)) ≡ true → ((b || is_in f xs) ≡ true) ⊎ (is_in f ys ≡ true)
    go true r h = inl refl
    go false r h = r h

within_count : (n f : ℕ) (xs : List ℕ) → are_below n xs ≡ true → is_in f xs ≡ true → f < n
within_count n f xs h k = below_out n f xs (and_right (is_short xs) (list_all (λ x. nat_lt x n) xs) h) k

-- ---- tokens

module _ {X : Type 0} (p : X → Bool) where
  none_first : (xs ys : List X) → list_any p (xs ++ ys) ≡ false → list_any p xs ≡ false
  none_first [] ys h = refl
  none_first (x ∷ xs) ys h = rw (or_false_left (p x) (list_any p (xs ++ ys)) h) (none_first xs ys (or_false_right (p x) (list_any p (xs ++ ys)) h))

  none_second : (xs ys : List X) → list_any p (xs ++ ys) ≡ false → list_any p ys ≡ false
  none_second [] ys h = h
  none_second (x ∷ xs) ys h = none_second xs ys (or_false_right (p x) (list_any p (xs ++ ys)) h)

  none_mapped : (g : ℕ → X) (xs : List ℕ) (k : ℕ) → is_in k xs ≡ true → list_any p (map g xs) ≡ false → p (g k) ≡ false
  none_mapped g [] k h e = let c : false ≡ true = h in cc
  none_mapped g (x ∷ xs) k h e = go (x == k) refl (λ r. none_mapped g xs k r (or_false_right (p (g x)) (list_any p (map g xs)) e)) h
    where
      go : (b : Bool) → (x == k) ≡ b → (is_in k xs ≡ true → p (g k) ≡ false) → (b || is_in k xs) ≡ true → p (g k) ≡ false
      go true s r h = subst (λ n. p (g n) ≡ false) (same_out x k s) (or_false_left (p (g x)) (list_any p (map g xs)) e)
      go false s r h = r h

among_numbers : (n k : ℕ) → k < n → is_in k (numbers n) ≡ true
among_numbers zero k h = absurd (omega arith)
among_numbers (suc n) k h = let e : n + 1 ≡ suc n = omega arith in subst (λ m. is_in k (numbers m) ≡ true) e (subst (λ l. is_in k l ≡ true) (sym (numbers-more n)) (go (n == k) refl (among_numbers n k)))
  where
    go : (b : Bool) → (n == k) ≡ b → (k < n → is_in k (numbers n) ≡ true) → is_in k (numbers n ++ n ∷ []) ≡ true
    go true e r = in_right k (numbers n) (n ∷ []) (ap (λ c. c || false) e)
    go false e r = is_in-left k (numbers n) (n ∷ []) (r (less n k h e))
      where
        less : (n k : ℕ) → k < suc n → (n == k) ≡ false → k < n
        less n k h e = grind (arith, h, e)

kept_number : (p : ℕ → Bool) (k : ℕ) (xs : List ℕ) → p k ≡ true → is_in k xs ≡ true → is_in k (filter p xs) ≡ true
kept_number p k [] e h = h
kept_number p k (x ∷ xs) e h = go (x == k) (p x) refl refl (kept_number p k xs e) h
  where
    go : (b c : Bool) → (x == k) ≡ b → p x ≡ c → (is_in k xs ≡ true → is_in k (filter p xs) ≡ true) → (b || is_in k xs) ≡ true → is_in k (cond c (x ∷ filter p xs) (filter p xs)) ≡ true
    go true true s q r h = ap (λ b. b || is_in k (filter p xs)) s
    go true false s q r h = let c : false ≡ true = sym q ∙ ap p (same_out x k s) ∙ e in cc
    go false true s q r h = ap (λ b. b || is_in k (filter p xs)) s ∙ r h
    go false false s q r h = r h

-- the tokens of facts and of fluents come first
record FirstTokens (task : TaskParts) (p : Token → Bool) : Type 0 where
  facts : list_any p (map token.Fact (numbers (length task.facts))) ≡ false
  fluents : list_any p (map token.Fluent (filter (λ f. is_in f (tracked_fluents task)) (numbers (length task.fluents)))) ≡ false

first_tokens : (task : TaskParts) (p : Token → Bool) → list_any p (tokens task) ≡ false → FirstTokens task p
unfolding tokens
first_tokens task p none =
    let a : List Token = map token.Fact (numbers (length task.facts)) in
    let b : List Token = map token.Fluent (filter (λ f. is_in f (tracked_fluents task)) (numbers (length task.fluents))) in
    let c : List Token = flat_map (λ a. comparison_tokens a.0 a.1) (enumerate_from 0 task.actions) in
    let d : List Token = map token.Formulas (filter are_several (map trail_facts task.hard ++ map soft_facts task.soft)) in
    let e : List Token = map (λ a. token.Action a.0) (filter (λ a. is_some a.1.end) (enumerate_from 0 task.actions)) in
    let both : list_any p (a ++ b) ≡ false = none_first p (a ++ b) c (none_first p ((a ++ b) ++ c) d (none_first p (((a ++ b) ++ c) ++ d) e none)) in
    record { facts = none_first p a b both; fluents = none_second p a b both }

module _ (task : TaskParts) (p : Token → Bool) (none : list_any p (tokens task) ≡ false) where
  pub fact_token : (f : ℕ) → f < length task.facts → p (token.Fact f) ≡ false
  fact_token f h = none_mapped p token.Fact (numbers (length task.facts)) f (among_numbers (length task.facts) f h) (first_tokens task p none).facts

  pub fluent_token : (f : ℕ) → f < length task.fluents → is_in f (tracked_fluents task) ≡ true → p (token.Fluent f) ≡ false
  fluent_token f h t = none_mapped p token.Fluent (filter (λ f. is_in f (tracked_fluents task)) (numbers (length task.fluents))) f
      (kept_number (λ f. is_in f (tracked_fluents task)) f (numbers (length task.fluents)) t (among_numbers (length task.fluents) f h)) (first_tokens task p none).fluents

-- what a snap action tracks is tracked
tracked_by : (snaps : List Snap) (k f : ℕ) → is_in f (snap_tracked (slice_index_or snaps k no_snap)) ≡ true → is_in f (flat_map snap_tracked snaps) ≡ true
tracked_by [] k f h = let c : false ≡ true = h in cc
tracked_by (s ∷ ss) zero f h = is_in-left f (snap_tracked s) (flat_map snap_tracked ss) h
tracked_by (s ∷ ss) (suc k) f h = in_right f (snap_tracked s) (flat_map snap_tracked ss) (tracked_by ss k f h)

pub is_tracked : (task : TaskParts) (k f : ℕ) → is_in f (snap_tracked (snap_of task k)) ≡ true → is_in f (tracked_fluents task) ≡ true
is_tracked task k f h = is_in-left f (flat_map snap_tracked task.snaps ++ flat_map action_tracked task.actions ++ condition_fluents task.goal) (flat_map soft_fluents task.soft) (is_in-left f (flat_map snap_tracked task.snaps ++ flat_map action_tracked task.actions) (condition_fluents task.goal) (is_in-left f (flat_map snap_tracked task.snaps) (flat_map action_tracked task.actions) (tracked_by task.snaps k f h)))

-- ---- what well made snap actions write and read

record Parts (task : TaskParts) (s : Snap) : Type 0 where
  adds : are_below (length task.facts) s.effect.adds ≡ true
  deletes : are_below (length task.facts) s.effect.deletes ≡ true
  assigns : are_below (length task.fluents) (assigned_fluents s) ≡ true
  increases : are_below (length task.fluents) (increased_fluents s) ≡ true
  rates : are_below (length task.fluents) (map (λ r. r.0) s.rates) ≡ true

parts_of : (task : TaskParts) (s : Snap) → snap_fits task s ≡ true → Parts task s
parts_of task s h =
    let e : effect_fits task s.kind s.effect ≡ true = and_right _ _ (and_left _ _ (and_left _ _ (and_left _ _ (and_left _ _ (and_left _ _ h))))) in
    record {
      adds = and_left _ _ (and_left _ _ (and_left _ _ e));
      deletes = and_right _ _ (and_left _ _ (and_left _ _ e));
      assigns = and_left _ _ (and_right _ _ (and_left _ _ e));
      increases = and_left _ _ (and_right _ _ e);
      rates = and_right _ _ (and_left _ _ (and_left _ _ (and_left _ _ h)));
    }

module _ (task : TaskParts) (fits : (k : ℕ) → snap_fits task (snap_of task k) ≡ true) where
  pub written_below : (k f : ℕ) → is_in f (written_fluents (snap_of task k)) ≡ true → f < length task.fluents
  written_below k f h = go (is_in-or f (assigned_fluents (snap_of task k)) (increased_fluents (snap_of task k)) h)
    where
      go : (is_in f (assigned_fluents (snap_of task k)) ≡ true) ⊎ (is_in f (increased_fluents (snap_of task k)) ≡ true) → f < length task.fluents
      go (inl e) = within_count (length task.fluents) f (assigned_fluents (snap_of task k)) (parts_of task (snap_of task k) (fits k)).assigns e
      go (inr e) = within_count (length task.fluents) f (increased_fluents (snap_of task k)) (parts_of task (snap_of task k) (fits k)).increases e

  rates_below : (ks : List ℕ) (f : ℕ) → is_in f (flat_map (λ a. map (λ r. r.0) (snap_of task (action_of task a).start).rates) ks) ≡ true → f < length task.fluents
  rates_below [] f h = let c : false ≡ true = h in cc
  rates_below (a ∷ ks) f h = go (is_in-or f (map (λ r. r.0) (snap_of task (action_of task a).start).rates) (flat_map (λ a. map (λ r. r.0) (snap_of task (action_of task a).start).rates) ks) h) (rates_below ks f)
    where
      go : (is_in f (map (λ r. r.0) (snap_of task (action_of task a).start).rates) ≡ true) ⊎ (is_in f (flat_map (λ a. map (λ r. r.0) (snap_of task (action_of task a).start).rates) ks) ≡ true)
          → (is_in f (flat_map (λ a. map (λ r. r.0) (snap_of task (action_of task a).start).rates) ks) ≡ true → f < length task.fluents) → f < length task.fluents
      go (inl e) r = within_count (length task.fluents) f (map (λ r. r.0) (snap_of task (action_of task a).start).rates) (parts_of task (snap_of task (action_of task a).start) (fits (action_of task a).start)).rates e
      go (inr e) r = r e

  pub changed_below : (k f : ℕ) → changes task (snap_of task k) f ≡ true → f < length task.fluents
  changed_below k f h = go (is_in f (written_fluents (snap_of task k))) refl h
    where
      go : (b : Bool) → is_in f (written_fluents (snap_of task k)) ≡ b → (b || is_in f (bent_fluents task (snap_of task k))) ≡ true → f < length task.fluents
      go true e h = written_below k f e
      go false e h = rates_below (started_or_ended (snap_of task k)) f h

  pub fact_below : (k f : ℕ) → changes_fact (snap_of task k) f ≡ true → f < length task.facts
  fact_below k f h = go (is_in f (snap_of task k).effect.adds) refl h
    where
      go : (b : Bool) → is_in f (snap_of task k).effect.adds ≡ b → (b || is_in f (snap_of task k).effect.deletes) ≡ true → f < length task.facts
      go true e h = within_count (length task.facts) f (snap_of task k).effect.adds (parts_of task (snap_of task k) (fits k)).adds e
      go false e h = within_count (length task.facts) f (snap_of task k).effect.deletes (parts_of task (snap_of task k) (fits k)).deletes h

-- what a snap action reads in its effects or assigns, it tracks and touches
abbrev effect_reads : Snap → List ℕ
effect_reads s = flat_map (λ e. form_fluents e.1.form) (s.effect.assigns ++ s.effect.increases)

read_tracked : (task : TaskParts) (k f : ℕ) → is_in f (effect_reads (snap_of task k)) ≡ true → is_in f (tracked_fluents task) ≡ true
read_tracked task k f h = is_tracked task k f (is_in-left f (condition_fluents (snap_of task k).condition ++ effect_reads (snap_of task k)) (assigned_fluents (snap_of task k)) (in_right f (condition_fluents (snap_of task k).condition) (effect_reads (snap_of task k)) h))

assigned_tracked : (task : TaskParts) (k f : ℕ) → is_in f (assigned_fluents (snap_of task k)) ≡ true → is_in f (tracked_fluents task) ≡ true
assigned_tracked task k f h = is_tracked task k f (in_right f (condition_fluents (snap_of task k).condition ++ effect_reads (snap_of task k)) (assigned_fluents (snap_of task k)) h)

read_looks : (task : TaskParts) (s : Snap) (f : ℕ) → is_in f (effect_reads s) ≡ true → looks task s (token.Fluent f) ≡ true
read_looks task s f h = is_in-left f (read_fluents task s) (flat_map condition_fluents (watches task s)) (is_in-left f (condition_fluents s.condition ++ effect_reads s) (flat_map (λ b. form_fluents b.form) (read_bounds task s)) (in_right f (condition_fluents s.condition) (effect_reads s) h))

assigned_marks : (task : TaskParts) (s : Snap) (f : ℕ) → is_in f (assigned_fluents s) ≡ true → marks task s (token.Fluent f) ≡ true
assigned_marks task s f h = is_in-left f (assigned_fluents s) (increased_fluents s) h

changed_marks : (task : TaskParts) (s : Snap) (f : ℕ) → changes_fact s f ≡ true → marks task s (token.Fact f) ≡ true
changed_marks task s f h = go (is_in f s.effect.adds) refl h
  where
    go : (b : Bool) → is_in f s.effect.adds ≡ b → (b || is_in f s.effect.deletes) ≡ true → is_in f (changed_facts s) ≡ true
    go true e h = is_in-left f s.effect.adds s.effect.deletes e
    go false e h = in_right f s.effect.adds s.effect.deletes h

-- ---- two tied or untied steps

-- a touch of x that marks, with one of y that marks or looks, sets them apart; the other way round too
marks_set : (mx lx my ly : Bool) → (mx && (my || ly) || lx && my) ≡ false → mx ≡ true → (my ≡ false) × (ly ≡ false)
marks_set true lx true ly h e = let c : true ≡ false = h in (c, absurd (false_true c))
  where
    false_true : true ≡ false → ⊥
    false_true c = cc
marks_set true lx false true h e = let c : true ≡ false = h in (refl, c)
marks_set true lx false false h e = (refl, refl)
marks_set false lx my ly h e = let c : false ≡ true = e in (cc, cc)

looks_set : (mx lx my ly : Bool) → (mx && (my || ly) || lx && my) ≡ false → my ≡ true → (mx ≡ false) × (lx ≡ false)
looks_set true lx true ly h e = let c : true ≡ false = h in (c, cc)
looks_set false true true ly h e = let c : true ≡ false = h in (refl, c)
looks_set false false true ly h e = (refl, refl)
looks_set mx lx false ly h e = let c : false ≡ true = e in (cc, cc)

bends_set : (bx tx by_ ty : Bool) → (bx && ty || tx && by_) ≡ false → bx ≡ true → ty ≡ false
bends_set true tx by_ true h e = h
bends_set true tx by_ false h e = refl
bends_set false tx by_ ty h e = let c : false ≡ true = e in cc

touch_set : (bx tx by_ ty : Bool) → (bx && ty || tx && by_) ≡ false → by_ ≡ true → tx ≡ false
touch_set true tx true true h e = let c : true ≡ false = h in cc
touch_set true true true false h e = h
touch_set true false true false h e = refl
touch_set false true true ty h e = h
touch_set false false true ty h e = refl
touch_set bx tx false ty h e = let c : false ≡ true = e in cc

-- ---- from what ties two steps to what their order needs

module _ (task : TaskParts) (fits : (k : ℕ) → snap_fits task (snap_of task k) ≡ true) (k l : ℕ) where
  abbrev x : Snap
  x = snap_of task k

  abbrev y : Snap
  y = snap_of task l

  flip_false : (b : Bool) → (b ≡ true → ⊥) → b ≡ false
  flip_false true f = absurd (f refl)
  flip_false false f = refl

  not_both : (b : Bool) → b ≡ true → b ≡ false → ⊥
  not_both b e f = let c : true ≡ false = sym e ∙ f in cc

  module _ (apart : tied_apart task (snap_of task k) (snap_of task l) ≡ false) where
    fact_apart : (f : ℕ) → f < length task.facts → (marks task x (token.Fact f) && (marks task y (token.Fact f) || looks task y (token.Fact f)) || looks task x (token.Fact f) && marks task y (token.Fact f)) ≡ false
    fact_apart f h = fact_token task (sets_apart task x y) apart f h

    fluent_apart : (f : ℕ) → f < length task.fluents → is_in f (tracked_fluents task) ≡ true → (marks task x (token.Fluent f) && (marks task y (token.Fluent f) || looks task y (token.Fluent f)) || looks task x (token.Fluent f) && marks task y (token.Fluent f)) ≡ false
    fluent_apart f h t = fluent_token task (sets_apart task x y) apart f h t

    changed_once : (f : ℕ) → changes_fact x f ≡ true → changes_fact y f ≡ false
    changed_once f h = flip_false (changes_fact y f) (λ e. not_both (marks task y (token.Fact f)) (changed_marks task y f e) (marks_set (marks task x (token.Fact f)) (looks task x (token.Fact f)) (marks task y (token.Fact f)) (looks task y (token.Fact f)) (fact_apart f (fact_below task fits k f h)) (changed_marks task x f h)).0)

    -- what y assigns or reads, x doesn't write
    second_apart : (f : ℕ) → is_in f (tracked_fluents task) ≡ true → (marks task y (token.Fluent f) || looks task y (token.Fluent f)) ≡ true → is_in f (written_fluents x) ≡ false
    second_apart f t e = flip_false (is_in f (written_fluents x)) (λ w. go (marks_set (marks task x (token.Fluent f)) (looks task x (token.Fluent f)) (marks task y (token.Fluent f)) (looks task y (token.Fluent f)) (fluent_apart f (written_below task fits k f w) t) w))
      where
        go : (marks task y (token.Fluent f) ≡ false) × (looks task y (token.Fluent f) ≡ false) → ⊥
        go h = not_both (marks task y (token.Fluent f) || looks task y (token.Fluent f)) e (ap₂ (λ a b. a || b) h.0 h.1)

    -- what x assigns or reads, y doesn't write
    first_apart : (f : ℕ) → is_in f (tracked_fluents task) ≡ true → (marks task x (token.Fluent f) || looks task x (token.Fluent f)) ≡ true → is_in f (written_fluents y) ≡ false
    first_apart f t e = flip_false (is_in f (written_fluents y)) (λ w. go (looks_set (marks task x (token.Fluent f)) (looks task x (token.Fluent f)) (marks task y (token.Fluent f)) (looks task y (token.Fluent f)) (fluent_apart f (written_below task fits l f w) t) w))
      where
        go : (marks task x (token.Fluent f) ≡ false) × (looks task x (token.Fluent f) ≡ false) → ⊥
        go h = not_both (marks task x (token.Fluent f) || looks task x (token.Fluent f)) e (ap₂ (λ a b. a || b) h.0 h.1)

-- a fact of each fluent that some amounts read
all_read : (P : ℕ → Type 0) (es : List (ℕ × Amount)) → ((f : ℕ) → is_in f (flat_map (λ (e : ℕ × Amount). form_fluents e.1.form) es) ≡ true → P f) → AllByRecursion (λ e. AllByRecursion (λ t. P t.0) e.1.form.terms) es
all_read P [] h = tt
all_read P (e ∷ es) h = (terms e.1.form.terms (λ f i. h f (is_in-left f (form_fluents e.1.form) (flat_map (λ (e : ℕ × Amount). form_fluents e.1.form) es) i)), all_read P es (λ f i. h f (in_right f (form_fluents e.1.form) (flat_map (λ (e : ℕ × Amount). form_fluents e.1.form) es) i)))
  where
    terms : (ts : List (ℕ × ℚ)) → ((f : ℕ) → is_in f (map (λ t. t.0) ts) ≡ true → P f) → AllByRecursion (λ t. P t.0) ts
    terms [] g = tt
    terms (t ∷ ts) g = (g t.0 (ap (λ b. b || is_in t.0 (map (λ t. t.0) ts)) (same_itself t.0)), terms ts (λ f i. g f (in_right f (t.0 ∷ []) (map (λ t. t.0) ts) i)))

reads-append : (es fs : List (ℕ × Amount)) → flat_map (λ (e : ℕ × Amount). form_fluents e.1.form) (es ++ fs) ≡ flat_map (λ (e : ℕ × Amount). form_fluents e.1.form) es ++ flat_map (λ (e : ℕ × Amount). form_fluents e.1.form) fs
reads-append es fs = flat_map-append (λ (e : ℕ × Amount). form_fluents e.1.form) es fs

reads_first : (s : Snap) (f : ℕ) → is_in f (flat_map (λ (e : ℕ × Amount). form_fluents e.1.form) s.effect.assigns) ≡ true → is_in f (effect_reads s) ≡ true
reads_first s f h = subst (λ l. is_in f l ≡ true) (sym (reads-append s.effect.assigns s.effect.increases)) (is_in-left f (flat_map (λ (e : ℕ × Amount). form_fluents e.1.form) s.effect.assigns) (flat_map (λ (e : ℕ × Amount). form_fluents e.1.form) s.effect.increases) h)

reads_second : (s : Snap) (f : ℕ) → is_in f (flat_map (λ (e : ℕ × Amount). form_fluents e.1.form) s.effect.increases) ≡ true → is_in f (effect_reads s) ≡ true
reads_second s f h = subst (λ l. is_in f l ≡ true) (sym (reads-append s.effect.assigns s.effect.increases)) (in_right f (flat_map (λ (e : ℕ × Amount). form_fluents e.1.form) s.effect.assigns) (flat_map (λ (e : ℕ × Amount). form_fluents e.1.form) s.effect.increases) h)

module _ (task : TaskParts) (fits : (k : ℕ) → snap_fits task (snap_of task k) ≡ true) (k l : ℕ) (apart : tied_apart task (snap_of task k) (snap_of task l) ≡ false) where
  pub together : Together (snap_of task k) (snap_of task l)
  together = record {
    facts = λ f h. or_false_right (is_in f (snap_of task l).effect.adds) (is_in f (snap_of task l).effect.deletes) (changed_once task fits k l apart f (or_left (is_in f (snap_of task k).effect.adds) (is_in f (snap_of task k).effect.deletes) h));
    assigns = λ f h. second_apart task fits k l apart f (assigned_tracked task l f h) (or_left (marks task (snap_of task l) (token.Fluent f)) (looks task (snap_of task l) (token.Fluent f)) (assigned_marks task (snap_of task l) f h));
    reads = (
      all_read (λ f. is_in f (written_fluents (snap_of task k)) ≡ false) (snap_of task l).effect.assigns (λ f h. read_apart f (reads_first (snap_of task l) f h)),
      all_read (λ f. is_in f (written_fluents (snap_of task k)) ≡ false) (snap_of task l).effect.increases (λ f h. read_apart f (reads_second (snap_of task l) f h)),
    );
  }
    where
      read_apart : (f : ℕ) → is_in f (effect_reads (snap_of task l)) ≡ true → is_in f (written_fluents (snap_of task k)) ≡ false
      read_apart f h = second_apart task fits k l apart f (read_tracked task l f h) (or_right (marks task (snap_of task l) (token.Fluent f)) (looks task (snap_of task l) (token.Fluent f)) (read_looks task (snap_of task l) f h))

  module _ (free : tied_in_order task (snap_of task k) (snap_of task l) ≡ false) where
    fluent_free : (f : ℕ) → f < length task.fluents → is_in f (tracked_fluents task) ≡ true → sets_order task (snap_of task k) (snap_of task l) (token.Fluent f) ≡ false
    fluent_free f h t = fluent_token task (sets_order task (snap_of task k) (snap_of task l)) free f h t

    touching : (s : Snap) (f : ℕ) → (marks task s (token.Fluent f) || looks task s (token.Fluent f)) ≡ true → touches task s (token.Fluent f) ≡ true
    touching s f h = go (looks task s (token.Fluent f)) (marks task s (token.Fluent f)) (bends task s (token.Fluent f)) h
      where
        go : (a b c : Bool) → (b || a) ≡ true → (a || b || c) ≡ true
        go true b c h = refl
        go false true c h = refl
        go false false c h = let d : false ≡ true = h in cc

    second_unchanged : (f : ℕ) → is_in f (tracked_fluents task) ≡ true → (marks task (snap_of task l) (token.Fluent f) || looks task (snap_of task l) (token.Fluent f)) ≡ true → changes task (snap_of task k) f ≡ false
    second_unchanged f t e = ap₂ (λ a b. a || b) (second_apart task fits k l apart f t e)
        (flip_false task fits k l (is_in f (bent_fluents task (snap_of task k))) (λ b. not_both task fits k l (touches task (snap_of task l) (token.Fluent f)) (touching (snap_of task l) f e)
        (bends_set (bends task (snap_of task k) (token.Fluent f)) (touches task (snap_of task k) (token.Fluent f)) (bends task (snap_of task l) (token.Fluent f)) (touches task (snap_of task l) (token.Fluent f)) (fluent_free f (changed_below task fits k f (or_right (is_in f (written_fluents (snap_of task k))) (is_in f (bent_fluents task (snap_of task k))) b)) t) b)))

    first_unchanged : (f : ℕ) → is_in f (tracked_fluents task) ≡ true → (marks task (snap_of task k) (token.Fluent f) || looks task (snap_of task k) (token.Fluent f)) ≡ true → changes task (snap_of task l) f ≡ false
    first_unchanged f t e = ap₂ (λ a b. a || b) (first_apart task fits k l apart f t e)
        (flip_false task fits k l (is_in f (bent_fluents task (snap_of task l))) (λ b. not_both task fits k l (touches task (snap_of task k) (token.Fluent f)) (touching (snap_of task k) f e)
        (touch_set (bends task (snap_of task k) (token.Fluent f)) (touches task (snap_of task k) (token.Fluent f)) (bends task (snap_of task l) (token.Fluent f)) (touches task (snap_of task l) (token.Fluent f)) (fluent_free f (changed_below task fits l f (or_right (is_in f (written_fluents (snap_of task l))) (is_in f (bent_fluents task (snap_of task l))) b)) t) b)))

    pub independent : Independent task (snap_of task k) (snap_of task l)
    independent = record {
      facts = changed_once task fits k l apart;
      first_assigns = λ f h. first_unchanged f (assigned_tracked task k f h) (or_left (marks task (snap_of task k) (token.Fluent f)) (looks task (snap_of task k) (token.Fluent f)) (assigned_marks task (snap_of task k) f h));
      second_assigns = λ f h. second_unchanged f (assigned_tracked task l f h) (or_left (marks task (snap_of task l) (token.Fluent f)) (looks task (snap_of task l) (token.Fluent f)) (assigned_marks task (snap_of task l) f h));
      first_reads = (
        all_read (λ f. changes task (snap_of task l) f ≡ false) (snap_of task k).effect.assigns (λ f h. read_first f (reads_first (snap_of task k) f h)),
        all_read (λ f. changes task (snap_of task l) f ≡ false) (snap_of task k).effect.increases (λ f h. read_first f (reads_second (snap_of task k) f h)),
      );
      second_reads = (
        all_read (λ f. changes task (snap_of task k) f ≡ false) (snap_of task l).effect.assigns (λ f h. read_second f (reads_first (snap_of task l) f h)),
        all_read (λ f. changes task (snap_of task k) f ≡ false) (snap_of task l).effect.increases (λ f h. read_second f (reads_second (snap_of task l) f h)),
      );
    }
      where
        read_first : (f : ℕ) → is_in f (effect_reads (snap_of task k)) ≡ true → changes task (snap_of task l) f ≡ false
        read_first f h = first_unchanged f (read_tracked task k f h) (or_right (marks task (snap_of task k) (token.Fluent f)) (looks task (snap_of task k) (token.Fluent f)) (read_looks task (snap_of task k) f h))

        read_second : (f : ℕ) → is_in f (effect_reads (snap_of task l)) ≡ true → changes task (snap_of task k) f ≡ false
        read_second f h = second_unchanged f (read_tracked task l f h) (or_right (marks task (snap_of task l) (token.Fluent f)) (looks task (snap_of task l) (token.Fluent f)) (read_looks task (snap_of task l) f h))

untied : (b : Bool) (A : Type 0) → (b ≡ true → A) → (A → ⊥) → b ≡ false
untied true A f g = absurd (g (f refl))
untied false A f g = refl

pub agrees : (task : TaskParts) → ((k : ℕ) → snap_fits task (snap_of task k) ≡ true) → (p q : Step) → Follows task p q → Agrees task p q
agrees task fits p q h = record {
  crossed = λ l. independent task fits p.snap q.snap
      (untied (tied_apart task (snap_of task p.snap) (snap_of task q.snap)) (p.time <ℚ q.time) h.later (λ m. lt_irrefl p.time (lt_trans p.time q.time p.time m l)))
      (untied (tied_in_order task (snap_of task p.snap) (snap_of task q.snap)) (p.time ≤ℚ q.time) h.no_earlier (λ m. lt_le_absurd q.time p.time l m));
  at_once = λ e. together task fits p.snap q.snap (untied (tied_apart task (snap_of task p.snap) (snap_of task q.snap)) (p.time <ℚ q.time) h.later (λ m. lt_irrefl q.time (subst (λ t. t <ℚ q.time) e m)));
}

-- A list whose steps follow one another as their ties ask agrees with their times.
pub all_agree : (task : TaskParts) → ((k : ℕ) → snap_fits task (snap_of task k) ≡ true) → (ss : List Step) → AreInOrder task ss → AllAgree task ss
all_agree task fits [] h = tt
all_agree task fits (p ∷ ps) h = (each ps h.0, all_agree task fits ps h.1)
  where
    each : (qs : List Step) → AllByRecursion (Follows task p) qs → AllByRecursion (Agrees task p) qs
    each [] a = tt
    each (q ∷ qs) a = (agrees task fits p q a.0, each qs a.1)
