-- Snap actions that clash are set apart.
use Rattle.std.proofs.Common.{◌≡◌, refl, sym, ap, subst, ◌∙◌, ℕ, zero, suc, ◌+◌, ◌<◌, Bool, true, false, cond, not, ◌&&◌, ◌||◌, ◌==◌, List, [], ◌∷◌, ◌++◌, length, map, arith, Option, Some, None}
use Rattle.std.specs.Prelude.{IsTrue, slice_index_or, if◌then◌else◌, nat_lt, option_to_list, is_some}
use Rattle.std.specs.List.{list_any, list_all, filter, flat_map, enumerate_from, range_with_len}
use Rattle.std.proofs.Math.Bool.{and_comm}
use Rattle.basics.proofs.Bools.{and_left, and_right, and_in, or_left, or_right}
use Rattle.basics.proofs.Naturals.{same_itself, same_out, lt_out}
use Rattle.basics.proofs.Lists.{any_left, any_right}
use Rattle.task_types.specs.declared.actions.Action.{Action}
use Rattle.task_types.specs.declared.actions.Bound.{Bound}
use Rattle.task_types.specs.declared.actions.Snap.{Snap}
use Rattle.task_types.specs.declared.orderings.Link.TheVariants.{Free, Weak, Apart}
use Rattle.task_types.specs.declared.parts.TaskParts.{TaskParts}
use Rattle.task_types.specs.declared.tokens.Token.{Token}
use Rattle.task_types.specs.declared.tokens.Token.TheVariants as token
use Rattle.task_types.specs.Sets.{is_in, meet, are_several, numbers}
use Rattle.task_types.specs.Plan.{action_of, snap_of, no_action, no_snap}
use Rattle.task_types.specs.Clash.{clash, disturbs, condition_fluents, form_fluents, read_facts, changed_facts, read_fluents, read_bounds, own_action, assigned_fluents, increased_fluents, written_fluents, is_read_at}
use Rattle.task_types.specs.Touch.{is_timed, looks, marks, tokens, tracked_fluents, snap_tracked, action_tracked, comparison_tokens, trail_facts, soft_facts, soft_fluents}
use Rattle.task_types.specs.Order.{sets_apart, sets_order, link}
use Rattle.task_types.specs.WellMade.{IsWellMade, snap_fits, condition_fits, effect_fits}
use Rattle.task_types.proofs.Assigning.{is_in-left, snap_of_fits}
use Rattle.task_types.proofs.Links.{link_comm}

-- ---- members

pub in_right : (f : ℕ) (xs ys : List ℕ) → is_in f ys ≡ true → is_in f (xs ++ ys) ≡ true
in_right f [] ys h = h
in_right f (x ∷ xs) ys h = or_right (x == f) (is_in f (xs ++ ys)) (in_right f xs ys h)

-- a member of an appended list stands in one of the two
data Among (f : ℕ) (xs ys : List ℕ) : Type 0 where
  first : is_in f xs ≡ true → Among f xs ys
  second : is_in f ys ≡ true → Among f xs ys

among : (f : ℕ) (xs ys : List ℕ) → is_in f (xs ++ ys) ≡ true → Among f xs ys
among f [] ys h = second h
among f (x ∷ xs) ys h = go (x == f) refl h (among f xs ys)
  where
    go : (b : Bool) → (x == f) ≡ b → (b || is_in f (xs ++ ys)) ≡ true → (is_in f (xs ++ ys) ≡ true → Among f xs ys) → Among f (x ∷ xs) ys
    go true e l r = first (or_left (x == f) (is_in f xs) e)
    go false e l r = elim (r l) [ first k ↦ first (or_right (x == f) (is_in f xs) k) | second k ↦ second k ]

-- a number in both of two lists that meet
meet_out : (xs ys : List ℕ) → meet xs ys ≡ true → (f : ℕ) × (is_in f xs ≡ true) × (is_in f ys ≡ true)
meet_out [] ys h = cc
meet_out (x ∷ xs) ys h = go (is_in x ys) refl h (meet_out xs ys)
  where
    go : (b : Bool) → is_in x ys ≡ b → (b || meet xs ys) ≡ true → (meet xs ys ≡ true → (f : ℕ) × (is_in f xs ≡ true) × (is_in f ys ≡ true)) → (f : ℕ) × (is_in f (x ∷ xs) ≡ true) × (is_in f ys ≡ true)
    go true e l r = (x, or_left (x == x) (is_in x xs) (same_itself x), e)
    go false e l r = let k = r l in (k.0, or_right (x == k.0) (is_in k.0 xs) k.1, k.2)

pub below_out : (n f : ℕ) (xs : List ℕ) → list_all (λ x. nat_lt x n) xs ≡ true → is_in f xs ≡ true → f < n
below_out n f [] h k = cc
below_out n f (x ∷ xs) h k = go (x == f) refl k (below_out n f xs (and_right _ _ h))
  where
    go : (b : Bool) → (x == f) ≡ b → (b || is_in f xs) ≡ true → (is_in f xs ≡ true → f < n) → f < n
    go true e l r = subst (λ y. y < n) (same_out x f e) (lt_out x n (and_left _ _ h))
    go false e l r = r l

-- a member of a list of one element's is a member of that of all
in_flat : {X : Type 0} (g : X → List ℕ) (f : ℕ) (d : X) → is_in f (g d) ≡ false → (xs : List X) (k : ℕ) → is_in f (g (slice_index_or xs k d)) ≡ true → is_in f (flat_map g xs) ≡ true
in_flat g f d e [] k h = let c : false ≡ true = sym e ∙ h in cc
in_flat g f d e (x ∷ xs) zero h = is_in-left f (g x) (flat_map g xs) h
in_flat g f d e (x ∷ xs) (suc k) h = in_right f (g x) (flat_map g xs) (in_flat g f d e xs k h)

-- what a chosen part has, the whole has
in_chosen : {X : Type 0} (g : X → List ℕ) (f : ℕ) (p : X → Bool) (xs : List X) → is_in f (flat_map g (filter p xs)) ≡ true → is_in f (flat_map g xs) ≡ true
in_chosen g f p [] h = h
in_chosen g f p (x ∷ xs) h = go (p x) h (in_chosen g f p xs)
  where
    go : (b : Bool) → is_in f (flat_map g (cond b (x ∷ filter p xs) (filter p xs))) ≡ true → (is_in f (flat_map g (filter p xs)) ≡ true → is_in f (flat_map g xs) ≡ true) → is_in f (g x ++ flat_map g xs) ≡ true
    go true h r = elim (among f (g x) (flat_map g (filter p xs)) h) [ first k ↦ is_in-left f (g x) (flat_map g xs) k | second k ↦ in_right f (g x) (flat_map g xs) (r k) ]
    go false h r = in_right f (g x) (flat_map g xs) (r h)

-- ---- tokens

-- some number of a range, of those that are chosen, passes
any_chosen : {X : Type 0} (p : X → Bool) (g : ℕ → X) (q : ℕ → Bool) (a n k : ℕ) → k < n → q (a + k) ≡ true → p (g (a + k)) ≡ true → list_any p (map g (filter q (range_with_len a n))) ≡ true
any_chosen p g q a zero k l c h = absurd (omega arith)
any_chosen p g q a (suc n) zero l c h = go (q a) (subst (λ j. q j ≡ true) e c) (subst (λ j. p (g j) ≡ true) e h)
  where
    e : a + 0 ≡ a
    e = omega arith

    go : (b : Bool) → b ≡ true → p (g a) ≡ true → list_any p (map g (cond b (a ∷ filter q (range_with_len (a + 1) n)) (filter q (range_with_len (a + 1) n)))) ≡ true
    go true c h = or_left (p (g a)) _ h
    go false c h = cc
any_chosen p g q a (suc n) (suc k) l c h = go (q a) (any_chosen p g q (a + 1) n k (omega arith) (subst (λ j. q j ≡ true) e c) (subst (λ j. p (g j) ≡ true) e h))
  where
    e : a + suc k ≡ a + 1 + k
    e = omega arith

    go : (b : Bool) → list_any p (map g (filter q (range_with_len (a + 1) n))) ≡ true → list_any p (map g (cond b (a ∷ filter q (range_with_len (a + 1) n)) (filter q (range_with_len (a + 1) n)))) ≡ true
    go true r = or_right (p (g a)) _ r
    go false r = r

zero_add : (k : ℕ) → 0 + k ≡ k
zero_add k = omega arith

all_chosen : (xs : List ℕ) → filter (λ x. true) xs ≡ xs
all_chosen [] = refl
all_chosen (x ∷ xs) = ap (λ l. x ∷ l) (all_chosen xs)

-- the five parts of the tokens
in_first : (p : Token → Bool) (a b c d e : List Token) → list_any p a ≡ true → list_any p (a ++ b ++ c ++ d ++ e) ≡ true
in_first p a b c d e h = any_left p (a ++ b ++ c ++ d) e (any_left p (a ++ b ++ c) d (any_left p (a ++ b) c (any_left p a b h)))

in_second : (p : Token → Bool) (a b c d e : List Token) → list_any p b ≡ true → list_any p (a ++ b ++ c ++ d ++ e) ≡ true
in_second p a b c d e h = any_left p (a ++ b ++ c ++ d) e (any_left p (a ++ b ++ c) d (any_left p (a ++ b) c (any_right p a b h)))

abbrev facts_in : TaskParts → List Token
facts_in task = map token.Fact (numbers (length task.facts))

abbrev fluents_in : TaskParts → List Token
fluents_in task = map token.Fluent (filter (λ f. is_in f (tracked_fluents task)) (numbers (length task.fluents)))

abbrev comparisons_in : TaskParts → List Token
comparisons_in task = flat_map (λ a. comparison_tokens a.0 a.1) (enumerate_from 0 task.actions)

abbrev formulas_in : TaskParts → List Token
formulas_in task = map token.Formulas (filter are_several (map trail_facts task.hard ++ map soft_facts task.soft))

abbrev actions_in : TaskParts → List Token
actions_in task = map (λ a. token.Action a.0) (filter (λ a. is_some a.1.end) (enumerate_from 0 task.actions))

module _ (task : TaskParts) (x y : Snap) where
  by_fact : (f : ℕ) → f < length task.facts → sets_apart task x y (token.Fact f) ≡ true → list_any (sets_apart task x y) (tokens task) ≡ true
  unfolding tokens
  by_fact f l h = in_first (sets_apart task x y) (facts_in task) (fluents_in task) (comparisons_in task) (formulas_in task) (actions_in task)
      (subst (λ xs. list_any (sets_apart task x y) (map token.Fact xs) ≡ true) (all_chosen (numbers (length task.facts)))
      (any_chosen (sets_apart task x y) token.Fact (λ x. true) 0 (length task.facts) f l refl (subst (λ k. sets_apart task x y (token.Fact k) ≡ true) (sym (zero_add f)) h)))

  by_fluent : (f : ℕ) → f < length task.fluents → is_in f (tracked_fluents task) ≡ true → sets_apart task x y (token.Fluent f) ≡ true → list_any (sets_apart task x y) (tokens task) ≡ true
  unfolding tokens
  by_fluent f l c h = in_second (sets_apart task x y) (facts_in task) (fluents_in task) (comparisons_in task) (formulas_in task) (actions_in task)
      (any_chosen (sets_apart task x y) token.Fluent (λ f. is_in f (tracked_fluents task)) 0 (length task.fluents) f l
      (subst (λ k. is_in k (tracked_fluents task) ≡ true) (sym (zero_add f)) c) (subst (λ k. sets_apart task x y (token.Fluent k) ≡ true) (sym (zero_add f)) h))

-- ---- what a snap action reads or assigns is tracked

tracked_by_snap : (task : TaskParts) (f i : ℕ) → is_in f (snap_tracked (snap_of task i)) ≡ true → is_in f (tracked_fluents task) ≡ true
tracked_by_snap task f i h = is_in-left f _ _ (is_in-left f _ _ (is_in-left f _ _ (in_flat snap_tracked f no_snap refl task.snaps i h)))

tracked_by_action : (task : TaskParts) (f a : ℕ) → is_in f (action_tracked (action_of task a)) ≡ true → is_in f (tracked_fluents task) ≡ true
tracked_by_action task f a h = is_in-left f (flat_map snap_tracked task.snaps ++ flat_map action_tracked task.actions ++ condition_fluents task.goal) (flat_map soft_fluents task.soft)
    (is_in-left f (flat_map snap_tracked task.snaps ++ flat_map action_tracked task.actions) (condition_fluents task.goal)
    (in_right f (flat_map snap_tracked task.snaps) (flat_map action_tracked task.actions) (in_flat action_tracked f no_action refl task.actions a h)))

bounds_tracked : (task : TaskParts) (f : ℕ) (s : Snap) → is_in f (flat_map (λ b. form_fluents b.form) (read_bounds task s)) ≡ true → is_in f (tracked_fluents task) ≡ true
bounds_tracked task f s h = go s.action (in_chosen (λ (b : Bound). form_fluents b.form) f (is_read_at s.kind) (flat_map (λ (a : Action). a.bounds) (own_action task s)) h)
  where
    append_none : {X : Type 0} (xs : List X) → xs ++ [] ≡ xs
    append_none [] = refl
    append_none (x ∷ xs) = ap (λ l. x ∷ l) (append_none xs)

    go : (o : Option ℕ) → is_in f (flat_map (λ (b : Bound). form_fluents b.form) (flat_map (λ (a : Action). a.bounds) (map (action_of task) (option_to_list o)))) ≡ true → is_in f (tracked_fluents task) ≡ true
    go None h = cc
    go (Some a) h = tracked_by_action task f a (in_right f (condition_fluents (action_of task a).over_all) _ (subst (λ xs. is_in f (flat_map (λ (b : Bound). form_fluents b.form) xs) ≡ true) (append_none (action_of task a).bounds) h))

read_tracked : (task : TaskParts) (f i : ℕ) → is_in f (read_fluents task (snap_of task i)) ≡ true → is_in f (tracked_fluents task) ≡ true
read_tracked task f i h = elim (among f _ _ h) [ first k ↦ tracked_by_snap task f i (is_in-left f _ _ k) | second k ↦ bounds_tracked task f (snap_of task i) k ]

-- ---- each way to clash

module _ (task : TaskParts) (well : IsWellMade task) (i j : ℕ) where
  fits : (k : ℕ) → snap_fits task (snap_of task k) ≡ true
  fits k = snap_of_fits task (and_right _ _ well.snaps) k

  effect_fit : (k : ℕ) → effect_fits task (snap_of task k).kind (snap_of task k).effect ≡ true
  effect_fit k = and_right _ _ (and_left _ _ (and_left _ _ (and_left _ _ (and_left _ _ (and_left _ _ (snap_of_fits task (and_right _ _ well.snaps) k))))))

  condition_fit : (k : ℕ) → condition_fits task (snap_of task k).condition ≡ true
  condition_fit k = and_left _ _ (and_left _ _ (and_left _ _ (and_left _ _ (and_left _ _ (and_left _ _ (snap_of_fits task (and_right _ _ well.snaps) k))))))

  reads_a_fact : (f : ℕ) → is_in f (read_facts (snap_of task i)) ≡ true → f < length task.facts
  reads_a_fact f h = below_out (length task.facts) f (read_facts (snap_of task i)) (and_right _ _ (and_left _ _ (condition_fit i))) h

  adds_a_fact : (f : ℕ) → is_in f (snap_of task i).effect.adds ≡ true → f < length task.facts
  adds_a_fact f h = below_out (length task.facts) f (snap_of task i).effect.adds (and_right _ _ (and_left _ _ (and_left _ _ (and_left _ _ (effect_fit i))))) h

  writes_a_fluent : (k f : ℕ) → is_in f (written_fluents (snap_of task k)) ≡ true → f < length task.fluents
  writes_a_fluent k f h = elim (among f (assigned_fluents (snap_of task k)) (increased_fluents (snap_of task k)) h) [
    | first l ↦ below_out (length task.fluents) f (assigned_fluents (snap_of task k)) (and_right _ _ (and_left _ _ (and_right _ _ (and_left _ _ (effect_fit k))))) l
    | second l ↦ below_out (length task.fluents) f (increased_fluents (snap_of task k)) (and_right _ _ (and_left _ _ (and_right _ _ (effect_fit k)))) l
  ]

  -- one looks and the other marks, or both mark
  looks_marks : (t : Token) → looks task (snap_of task i) t ≡ true → marks task (snap_of task j) t ≡ true → sets_apart task (snap_of task i) (snap_of task j) t ≡ true
  looks_marks t h k = or_right _ _ (and_in _ _ h k)

  marks_marks : (t : Token) → marks task (snap_of task i) t ≡ true → marks task (snap_of task j) t ≡ true → sets_apart task (snap_of task i) (snap_of task j) t ≡ true
  marks_marks t h k = or_left _ _ (and_in _ _ h (or_left _ _ k))

  by_reading : meet (read_facts (snap_of task i)) (changed_facts (snap_of task j)) ≡ true → list_any (sets_apart task (snap_of task i) (snap_of task j)) (tokens task) ≡ true
  by_reading h = let m = meet_out _ _ h in by_fact task (snap_of task i) (snap_of task j) m.0 (reads_a_fact m.0 m.1) (looks_marks (token.Fact m.0) (is_in-left m.0 _ _ m.1) m.2)

  by_adding : meet (snap_of task i).effect.adds (snap_of task j).effect.deletes ≡ true → list_any (sets_apart task (snap_of task i) (snap_of task j)) (tokens task) ≡ true
  by_adding h = let m = meet_out _ _ h in by_fact task (snap_of task i) (snap_of task j) m.0 (adds_a_fact m.0 m.1) (marks_marks (token.Fact m.0) (is_in-left m.0 _ _ m.1) (in_right m.0 (snap_of task j).effect.adds _ m.2))

  by_writing : meet (read_fluents task (snap_of task i)) (written_fluents (snap_of task j)) ≡ true → list_any (sets_apart task (snap_of task i) (snap_of task j)) (tokens task) ≡ true
  by_writing h = let m = meet_out _ _ h in by_fluent task (snap_of task i) (snap_of task j) m.0 (writes_a_fluent j m.0 m.2) (read_tracked task m.0 i m.1) (looks_marks (token.Fluent m.0) (is_in-left m.0 _ _ m.1) m.2)

  by_assigning : meet (assigned_fluents (snap_of task i)) (written_fluents (snap_of task j)) ≡ true → list_any (sets_apart task (snap_of task i) (snap_of task j)) (tokens task) ≡ true
  by_assigning h = let m = meet_out _ _ h in by_fluent task (snap_of task i) (snap_of task j) m.0 (writes_a_fluent j m.0 m.2) (tracked_by_snap task m.0 i (in_right m.0 _ _ m.1)) (marks_marks (token.Fluent m.0) (is_in-left m.0 _ _ m.1) m.2)

  disturbed : disturbs task (snap_of task j) (snap_of task i) ≡ true → list_any (sets_apart task (snap_of task i) (snap_of task j)) (tokens task) ≡ true
  disturbed h = four _ _ _ _ h by_reading by_adding by_writing by_assigning
    where
      four : {P : Type 0} (a b c d : Bool) → (a || b || c || d) ≡ true → (a ≡ true → P) → (b ≡ true → P) → (c ≡ true → P) → (d ≡ true → P) → P
      four true b c d h f g k l = f refl
      four false true c d h f g k l = g refl
      four false false true d h f g k l = k refl
      four false false false d h f g k l = l h

-- not both timed, and a token sets them apart
linked_apart : (task : TaskParts) (x y : Snap) → not (is_timed x.kind && is_timed y.kind) ≡ true → list_any (sets_apart task x y) (tokens task) ≡ true → link task x y ≡ Apart
unfolding link
linked_apart task x y k h = go (is_timed x.kind && is_timed y.kind) k
  where
    go : (b : Bool) → not b ≡ true → (if b then Free else (if list_any (sets_apart task x y) (tokens task) then Apart else (if list_any (sets_order task x y) (tokens task) then Weak else Free))) ≡ Apart
    go true e = cc
    go false e = rw h refl

pub clash-apart : (task : TaskParts) (i j : ℕ) → IsWellMade task → IsTrue (clash task (snap_of task i) (snap_of task j))
    → IsTrue (not (is_timed (snap_of task i).kind && is_timed (snap_of task j).kind)) → link task (snap_of task i) (snap_of task j) ≡ Apart
unfolding clash
clash-apart task i j w h k = go (disturbs task (snap_of task j) (snap_of task i)) refl h
  where
    go : (b : Bool) → disturbs task (snap_of task j) (snap_of task i) ≡ b → (b || disturbs task (snap_of task i) (snap_of task j)) ≡ true → link task (snap_of task i) (snap_of task j) ≡ Apart
    go true e l = linked_apart task (snap_of task i) (snap_of task j) k (disturbed task w i j e)
    go false e l = link_comm task (snap_of task i) (snap_of task j) ∙ linked_apart task (snap_of task j) (snap_of task i) (ap not (and_comm (is_timed (snap_of task j).kind) (is_timed (snap_of task i).kind)) ∙ k) (disturbed task w j i l)
