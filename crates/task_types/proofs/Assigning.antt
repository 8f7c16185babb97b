-- In a valid plan of a well made task no two assignments to one fluent meet.
use Rattle.std.proofs.Common.{◌≡◌, refl, sym, ap, subst, ◌∙◌, ℕ, zero, suc, ◌+◌, ◌≤◌, Bool, true, false, cond, not, ◌&&◌, ◌||◌, ◌==◌, List, [], ◌∷◌, ◌++◌, length, map, arith, length-append}
use Rattle.std.specs.Prelude.{slice_index_or, is_none, nat_le}
use Rattle.std.specs.List.{list_all, filter, flat_map}
use Rattle.std.proofs.lemmas.List.Concat.{flat_map-append}
use Rattle.std.proofs.lemmas.List.Elements.{filter-append}
use Rattle.rational.specs.Rational.{ℚ, zeroℚ, ◌+ℚ◌, ◌<ℚ◌}
use Rattle.rational.proofs.Order.{ℚ_ordered}
use Rattle.rational.proofs.Ring.{◌⊕◌, num, ◌≺◌}
use Rattle.rational.proofs.Solve.{linear, ◌⊢◌}
use Rattle.basics.proofs.Bools.{and_left, and_right, or_left, or_right, or_false_left, or_false_right, not_true}
use Rattle.basics.proofs.Naturals.{same_out}
use Rattle.task_types.specs.declared.actions.Snap.{Snap}
use Rattle.task_types.specs.declared.conditions.Amount.{Amount}
use Rattle.task_types.specs.declared.parts.Rules.{Rules}
use Rattle.task_types.specs.declared.parts.TaskParts.{TaskParts}
use Rattle.task_types.specs.Tests.{◌≤?◌, ◌=?◌}
use Rattle.task_types.specs.Sets.{is_in, meet, are_distinct}
use Rattle.task_types.specs.Plan.{Plan, Step, snap_of, no_snap, plan_steps, timed_steps, steps}
use Rattle.task_types.specs.Course.{entries_of, effect_of}
use Rattle.task_types.specs.Clash.{clash, disturbs, assigned_fluents, written_fluents, increased_fluents, read_facts, changed_facts, read_fluents}
use Rattle.task_types.specs.Trace.{at}
use Rattle.task_types.specs.Touch.{is_timed}
use Rattle.task_types.specs.Valid.{Valid, are_apart, each_apart, all_apart}
use Rattle.task_types.specs.WellMade.{IsWellMade, snap_fits, are_timed, is_empty, changes_facts_alone, moments_ascend, is_short, timed_limit, snap_total}
use Rattle.task_types.specs.Laws.{AssignsOnce}
use Rattle.task_types.proofs.Comparisons.{eq_out, lt_in}

-- ---- members of lists of numbers

pub is_in-left : (x : ℕ) (ys zs : List ℕ) → is_in x ys ≡ true → is_in x (ys ++ zs) ≡ true
is_in-left x [] zs h = let c : false ≡ true = h in cc
is_in-left x (y ∷ ys) zs h = go (y == x) h (is_in-left x ys zs)
  where
    go : (b : Bool) → (b || is_in x ys) ≡ true → (is_in x ys ≡ true → is_in x (ys ++ zs) ≡ true) → (b || is_in x (ys ++ zs)) ≡ true
    go true k r = refl
    go false k r = r k

-- a common number
pub meet_in : (x : ℕ) (xs ys : List ℕ) → is_in x xs ≡ true → is_in x ys ≡ true → meet xs ys ≡ true
meet_in x [] ys h k = let c : false ≡ true = h in cc
meet_in x (y ∷ zs) ys h k = go (y == x) refl h (λ l. meet_in x zs ys l k)
  where
    go : (b : Bool) → (y == x) ≡ b → (b || is_in x zs) ≡ true → (is_in x zs ≡ true → meet zs ys ≡ true) → (is_in y ys || meet zs ys) ≡ true
    go true e l r = or_left (is_in y ys) (meet zs ys) (subst (λ z. is_in z ys ≡ true) (sym (same_out y x e)) k)
    go false e l r = or_right (is_in y ys) (meet zs ys) (r l)

-- ---- entries of a fluent

module _ {A : Type 0} where
  firsts : List (ℕ × A) → List ℕ
  firsts xs = map (λ e. e.0) xs

  pub no_entries : (f : ℕ) (xs : List (ℕ × A)) → is_in f (map (λ e. e.0) xs) ≡ false → entries_of f xs ≡ []
  no_entries f [] h = refl
  no_entries f (x ∷ xs) h = rw (or_false_left (x.0 == f) (is_in f (map (λ e. e.0) xs)) h) (no_entries f xs (or_false_right (x.0 == f) (is_in f (map (λ e. e.0) xs)) h))

  pub one_entry : (f : ℕ) (xs : List (ℕ × A)) → are_distinct (map (λ e. e.0) xs) ≡ true → length (entries_of f xs) ≤ 1
  one_entry f [] h = omega arith
  one_entry f (x ∷ xs) h = go (x.0 == f) refl (one_entry f xs (and_right (not (is_in x.0 (map (λ e. e.0) xs))) (are_distinct (map (λ e. e.0) xs)) h))
    where
      go : (b : Bool) → (x.0 == f) ≡ b → length (entries_of f xs) ≤ 1 → length (map (λ (e : ℕ × A). e.1) (cond b (x ∷ filter (λ e. e.0 == f) xs) (filter (λ e. e.0 == f) xs))) ≤ 1
      go false e r = r
      go true e r = subst (λ (l : List A). suc (length l) ≤ 1) (sym (no_entries f xs (subst (λ g. is_in g (map (λ e. e.0) xs) ≡ false) (same_out x.0 f e) (not_true (is_in x.0 (map (λ e. e.0) xs)) (and_left (not (is_in x.0 (map (λ e. e.0) xs))) (are_distinct (map (λ e. e.0) xs)) h))))) (omega arith)

-- ---- steps at one moment

disturbed : (task : TaskParts) (f : ℕ) (x y : Snap) → is_in f (assigned_fluents x) ≡ true → is_in f (assigned_fluents y) ≡ true → clash task x y ≡ true
unfolding clash
disturbed task f x y h k = or_left (disturbs task y x) (disturbs task x y)
    (or_right (meet (read_facts x) (changed_facts y) || meet x.effect.adds y.effect.deletes || meet (read_fluents task x) (written_fluents y)) (meet (assigned_fluents x) (written_fluents y))
    (meet_in f (assigned_fluents x) (written_fluents y) h (is_in-left f (assigned_fluents y) (increased_fluents y) k)))

past_itself : (t e : ℚ) → zeroℚ <ℚ e → (t +ℚ e ≤? t) ≡ false
past_itself t e h = ap not (lt_in t (t +ℚ e) (linear ℚ_ordered (t ∷ e ∷ []) (λ t e. ((num 0) ≺ e ∷ []) ⊢ (t) ≺ (t ⊕ e)) (h, tt) refl))

not_at_once : (task : TaskParts) (rules : Rules) (x y : Step) (t : ℚ) → zeroℚ <ℚ rules.epsilon → x.time ≡ t → y.time ≡ t → clash task (snap_of task x.snap) (snap_of task y.snap) ≡ true → are_apart task rules x y ≡ true → ⊥
not_at_once task rules x y t e p q c a = let c : false ≡ true = sym (rw (c, p, q, past_itself t rules.epsilon e) refl) ∙ a in cc

-- what a list of steps assigns to a fluent at a moment
abbrev at_moment : TaskParts → ℚ → ℕ → List Step → List Amount
at_moment task t f xs = flat_map (λ step. entries_of f (effect_of task step).assigns) (filter (λ s. s.time =? t) xs)

Alone : TaskParts → Step → Type 0
Alone task x = are_distinct (assigned_fluents (snap_of task x.snap)) ≡ true

none_after : (task : TaskParts) (rules : Rules) (f : ℕ) (x : Step) → zeroℚ <ℚ rules.epsilon → is_in f (assigned_fluents (snap_of task x.snap)) ≡ true → (ys : List Step) → list_all (are_apart task rules x) ys ≡ true → at_moment task x.time f ys ≡ []
none_after task rules f x p h [] k = refl
none_after task rules f x p h (y ∷ ys) k = go (y.time =? x.time) refl (none_after task rules f x p h ys (and_right (are_apart task rules x y) (list_all (are_apart task rules x) ys) k))
  where
    none_here : (b : Bool) → is_in f (assigned_fluents (snap_of task y.snap)) ≡ b → y.time ≡ x.time → entries_of f (effect_of task y).assigns ≡ []
    none_here false e q = no_entries f (effect_of task y).assigns e
    none_here true e q = absurd (not_at_once task rules x y x.time p refl q (disturbed task f (snap_of task x.snap) (snap_of task y.snap) h e) (and_left (are_apart task rules x y) (list_all (are_apart task rules x) ys) k))

    go : (b : Bool) → (y.time =? x.time) ≡ b → at_moment task x.time f ys ≡ [] → flat_map (λ step. entries_of f (effect_of task step).assigns) (cond b (y ∷ filter (λ s. s.time =? x.time) ys) (filter (λ s. s.time =? x.time) ys)) ≡ []
    go false e r = r
    go true e r = rw (none_here (is_in f (assigned_fluents (snap_of task y.snap))) refl (eq_out y.time x.time e)) r

one_at_once : (task : TaskParts) (rules : Rules) (t : ℚ) (f : ℕ) → zeroℚ <ℚ rules.epsilon → ((x : Step) → are_distinct (assigned_fluents (snap_of task x.snap)) ≡ true) → (xs : List Step) → each_apart task rules xs ≡ true → length (at_moment task t f xs) ≤ 1
one_at_once task rules t f p d [] h = omega arith
one_at_once task rules t f p d (x ∷ xs) h = go (x.time =? t) refl (one_at_once task rules t f p d xs (and_right (list_all (are_apart task rules x) xs) (each_apart task rules xs) h))
  where
    here : (b : Bool) → is_in f (assigned_fluents (snap_of task x.snap)) ≡ b → x.time ≡ t → length (at_moment task t f xs) ≤ 1 → length (entries_of f (effect_of task x).assigns ++ at_moment task t f xs) ≤ 1
    here false e q r = subst (λ l. length (l ++ at_moment task t f xs) ≤ 1) (sym (no_entries f (effect_of task x).assigns e)) r
    here true e q r =
        let n : at_moment task t f xs ≡ [] = subst (λ u. at_moment task u f xs ≡ []) q (none_after task rules f x p e xs (and_left (list_all (are_apart task rules x) xs) (each_apart task rules xs) h)) in
        let o : length (entries_of f (effect_of task x).assigns) ≤ 1 = one_entry f (effect_of task x).assigns (d x) in
        subst (λ l. length (entries_of f (effect_of task x).assigns ++ l) ≤ 1) (sym n) (omega (arith, length-append (entries_of f (effect_of task x).assigns) [], o))

    go : (b : Bool) → (x.time =? t) ≡ b → length (at_moment task t f xs) ≤ 1 → length (flat_map (λ step. entries_of f (effect_of task step).assigns) (cond b (x ∷ filter (λ s. s.time =? t) xs) (filter (λ s. s.time =? t) xs))) ≤ 1
    go false e r = r
    go true e r = here (is_in f (assigned_fluents (snap_of task x.snap))) refl (eq_out x.time t e) r

-- ---- what a well made task says of its snap actions

pub all_read : {X : Type 0} (p : X → Bool) (d : X) → p d ≡ true → (xs : List X) → list_all p xs ≡ true → (k : ℕ) → p (slice_index_or xs k d) ≡ true
all_read p d e [] h k = e
all_read p d e (x ∷ xs) h zero = and_left (p x) (list_all p xs) h
all_read p d e (x ∷ xs) h (suc k) = all_read p d e xs (and_right (p x) (list_all p xs) h) k

pub at_read : {X : Type 0} (p : X → Bool) (d : X) (xs : List X) (k : ℕ) → at xs k p ≡ true → p (slice_index_or xs k d) ≡ true
at_read p d [] k h = let c : false ≡ true = h in cc
at_read p d (x ∷ xs) zero h = h
at_read p d (x ∷ xs) (suc k) h = at_read p d xs k h

fits_distinct : (task : TaskParts) (s : Snap) → snap_fits task s ≡ true → are_distinct (assigned_fluents s) ≡ true
fits_distinct task s h = and_right _ _ (and_left _ _ (and_left _ _ (and_left _ _ (and_left _ _ h))))

fits_timed : (task : TaskParts) (s : Snap) → snap_fits task s ≡ true → is_timed s.kind ≡ true → is_empty s.effect.assigns ≡ true
fits_timed task s h k = go (is_timed s.kind) k (and_right _ _ (and_left _ _ h))
  where
    go : (b : Bool) → b ≡ true → (not b || changes_facts_alone s) ≡ true → is_empty s.effect.assigns ≡ true
    go true e l = and_right _ _ (and_left _ _ l)
    go false e l = let c : false ≡ true = e in cc

empty_out : {A : Type 0} (xs : List A) → is_empty xs ≡ true → xs ≡ []
empty_out [] h = refl
empty_out (x ∷ xs) h = let c : false ≡ true = h in cc

pub snap_of_fits : (task : TaskParts) → list_all (snap_fits task) task.snaps ≡ true → (k : ℕ) → snap_fits task (snap_of task k) ≡ true
snap_of_fits task h k = all_read (snap_fits task) no_snap refl task.snaps h k

timed_step : ℚ × ℕ → Step
timed_step u = record { time = u.0; snap = u.1; duration = zeroℚ }

record TimedParts (task : TaskParts) (n : ℕ) (u : ℚ × ℕ) (us : List (ℚ × ℕ)) : Type 0 where
  number : (u.1 == n) ≡ true
  there : at task.snaps n (λ s. is_timed s.kind && is_none s.action) ≡ true
  rest : are_timed task (n + 1) us ≡ true

timed_parts : (task : TaskParts) (n : ℕ) (u : ℚ × ℕ) (us : List (ℚ × ℕ)) → are_timed task n (u ∷ us) ≡ true → TimedParts task n u us
timed_parts task n u us h = record {
  number = and_left (u.1 == n) (at task.snaps n (λ s. is_timed s.kind && is_none s.action)) (and_left (u.1 == n && at task.snaps n (λ s. is_timed s.kind && is_none s.action)) (are_timed task (n + 1) us) h);
  there = and_right (u.1 == n) (at task.snaps n (λ s. is_timed s.kind && is_none s.action)) (and_left (u.1 == n && at task.snaps n (λ s. is_timed s.kind && is_none s.action)) (are_timed task (n + 1) us) h);
  rest = and_right (u.1 == n && at task.snaps n (λ s. is_timed s.kind && is_none s.action)) (are_timed task (n + 1) us) h;
}

timed_none : (task : TaskParts) (t : ℚ) (f n : ℕ) (us : List (ℚ × ℕ)) → list_all (snap_fits task) task.snaps ≡ true → are_timed task n us ≡ true
    → at_moment task t f (map (λ (u : ℚ × ℕ). record { time = u.0; snap = u.1; duration = zeroℚ }) us) ≡ []
timed_none task t f n [] h k = refl
timed_none task t f n (u ∷ us) h k = go (u.0 =? t) (timed_none task t f (n + 1) us h (timed_parts task n u us k).rest)
  where
    assigns_none : (m : ℕ) → at task.snaps m (λ s. is_timed s.kind && is_none s.action) ≡ true → (snap_of task m).effect.assigns ≡ []
    assigns_none m a = empty_out (snap_of task m).effect.assigns (fits_timed task (snap_of task m) (snap_of_fits task h m) (and_left _ _ (at_read (λ s. is_timed s.kind && is_none s.action) no_snap task.snaps m a)))

    none_here : entries_of f (snap_of task u.1).effect.assigns ≡ []
    none_here = subst (λ m. entries_of f (snap_of task m).effect.assigns ≡ []) (sym (same_out u.1 n (timed_parts task n u us k).number)) (ap (entries_of f) (assigns_none n (timed_parts task n u us k).there))

    rest : List Step
    rest = filter (λ (s : Step). s.time =? t) (map (λ (u : ℚ × ℕ). record { time = u.0; snap = u.1; duration = zeroℚ }) us)

    go : (b : Bool) → flat_map (λ step. entries_of f (effect_of task step).assigns) (filter (λ (s : Step). s.time =? t) (map (λ (u : ℚ × ℕ). record { time = u.0; snap = u.1; duration = zeroℚ }) us)) ≡ []
        → flat_map (λ step. entries_of f (effect_of task step).assigns) (cond b (record { time = u.0; snap = u.1; duration = zeroℚ } ∷ filter (λ (s : Step). s.time =? t) (map (λ (u : ℚ × ℕ). record { time = u.0; snap = u.1; duration = zeroℚ }) us)) (filter (λ (s : Step). s.time =? t) (map (λ (u : ℚ × ℕ). record { time = u.0; snap = u.1; duration = zeroℚ }) us))) ≡ []
    go false r = r
    go true r = rw none_here r

pub valid-assigns_once : (task : TaskParts) (rules : Rules) (plan : Plan) → IsWellMade task → zeroℚ <ℚ rules.epsilon → Valid task rules plan → AssignsOnce task plan
valid-assigns_once task rules plan w p v t f = subst (λ l. length l ≤ 1) (sym split) (omega (arith, length-append (at_moment task t f (plan_steps task plan)) [], one))
  where
    one : length (at_moment task t f (plan_steps task plan)) ≤ 1
    one = one_at_once task rules t f p (λ x. fits_distinct task (snap_of task x.snap) (snap_of_fits task (and_right (is_short task.snaps) (list_all (snap_fits task) task.snaps) w.snaps) x.snap)) (plan_steps task plan) (and_left (each_apart task rules (plan_steps task plan)) (all_apart task rules (plan_steps task plan) (timed_steps task)) v.apart)

    split : at_moment task t f (steps task plan) ≡ at_moment task t f (plan_steps task plan) ++ []
    split = ap (flat_map (λ step. entries_of f (effect_of task step).assigns)) (filter-append (λ s. s.time =? t) (plan_steps task plan) (timed_steps task))
        ∙ flat_map-append (λ step. entries_of f (effect_of task step).assigns) (filter (λ s. s.time =? t) (plan_steps task plan)) (filter (λ s. s.time =? t) (timed_steps task))
        ∙ ap (λ l. at_moment task t f (plan_steps task plan) ++ l) (timed_none task t f (snap_total task.actions) task.timed (and_right (is_short task.snaps) (list_all (snap_fits task) task.snaps) w.snaps)
        (and_right (nat_le (length task.timed) timed_limit) (are_timed task (snap_total task.actions) task.timed)
        (and_left (nat_le (length task.timed) timed_limit && are_timed task (snap_total task.actions) task.timed) (moments_ascend zeroℚ task.timed) w.timed)))
