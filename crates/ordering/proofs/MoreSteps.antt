-- An ordering that takes one more step, or one more pair, is built over its task.
use Rattle.std.proofs.Common.{◌≡◌, refl, sym, ap, subst, ◌∙◌, ℕ, zero, suc, ◌+◌, ◌-◌, ◌<◌, ◌≤◌, Bool, true, false, cond, not, ◌&&◌, ◌==◌, List, [], ◌∷◌, ◌++◌, length, take, arith, length-append, Some, None}
use Rattle.std.specs.Prelude.{slice_index, option_to_list, nat_lt, nat_le, if◌then◌else◌, IsTrue}
use Rattle.std.specs.List.{list_all, count_by}
use Rattle.std.proofs.lemmas.Bool.Decides.{nat_tests}
use Rattle.std.proofs.lemmas.List.{take-append-le, get_or_append_left}
use Rattle.std.proofs.lemmas.List.Folds.{list_all-append}
use Rattle.std.proofs.lemmas.List.Sums.{fold-append, sum_by-append}
use Rattle.basics.proofs.Bools.{and_left, and_right, and_in, not_true}
use Rattle.task_types.specs.declared.actions.SnapKind.{SnapKind}
use Rattle.task_types.specs.declared.actions.SnapKind.TheVariants.{Start, End, Instant, Timed}
use Rattle.task_types.specs.declared.parts.TaskParts.{TaskParts}
use Rattle.task_types.specs.Tests.{every}
use Rattle.task_types.specs.Trace.{at}
use Rattle.task_types.specs.Plan.{snap_of}
use Rattle.task_types.specs.Sets.{meet}
use Rattle.task_types.specs.Touch.{is_timed}
use Rattle.task_types.specs.Order.{Order, is_built, may_follow, running, run_on, plan_step_count, plan_step_limit, timed_count}
use Rattle.task_types.specs.WellMade.{IsWellMade, timed_limit}
use Rattle.ordering.specs.declared.faults.OrderFault.TheVariants.{UnknownStep, TilOrder, Cycle, Limit}
use Rattle.ordering.specs.declared.orderings.StepOrdering.{StepOrdering}
use Rattle.ordering.specs.Orderings.{order_of, with_step, with_pair, BuiltOver}
use Rattle.ordering.specs.Refusals.{step_refusal, exceeds_limit, push_refusal, names_step, pair_refusal}
use Rattle.task_types.proofs.StepCounts.{take_done, at_done, running-more}

-- ---- what a step that isn't refused is

taken : (task : TaskParts) (steps : List ℕ) (s : ℕ) (kind : SnapKind) → step_refusal kind (may_follow task steps s kind) ≡ None → may_follow task steps s kind ≡ true
taken task steps s Instant e = refl
taken task steps s Start e = go (may_follow task steps s Start) e
  where
    go : (b : Bool) → step_refusal Start b ≡ None → b ≡ true
    go true e = refl
    go false e = cc
taken task steps s End e = go (may_follow task steps s End) e
  where
    go : (b : Bool) → step_refusal End b ≡ None → b ≡ true
    go true e = refl
    go false e = cc
taken task steps s Timed e = go (may_follow task steps s Timed) e
  where
    go : (b : Bool) → step_refusal Timed b ≡ None → b ≡ true
    go true e = refl
    go false e = cc

-- what is refused by its kind, as the code asks for it
pub timed_refusal : (kind : SnapKind) (b : Bool) (task : TaskParts) (steps : List ℕ) (s : ℕ) → kind ≡ Timed → b ≡ may_follow task steps s Timed → (if not b then Some TilOrder else None) ≡ step_refusal kind (may_follow task steps s kind)
timed_refusal kind b task steps s e h = rw (e, ← h) (go b)
  where
    go : (b : Bool) → (if not b then Some TilOrder else None) ≡ step_refusal Timed b
    go true = refl
    go false = refl

pub record IsTaken (task : TaskParts) (o : Order) (s : ℕ) : Type 0 where
  pub within : exceeds_limit task o (snap_of task s).kind ≡ false
  pub follows : may_follow task o.steps s (snap_of task s).kind ≡ true

pub is_taken : (task : TaskParts) (o : Order) (s : ℕ) → push_refusal task o s ≡ None → IsTaken task o s
unfolding push_refusal
is_taken task o s e = go (exceeds_limit task o (snap_of task s).kind) refl e
  where
    go : (b : Bool) → exceeds_limit task o (snap_of task s).kind ≡ b → (if b then Some Limit else step_refusal (snap_of task s).kind (may_follow task o.steps s (snap_of task s).kind)) ≡ None → IsTaken task o s
    go true f e = cc
    go false f e = record { within = f; follows = taken task o.steps s (snap_of task s).kind e }

at_within : {X : Type 0} (xs : List X) (k : ℕ) (p : X → Bool) → at xs k p ≡ true → k < length xs
at_within [] k p e = cc
at_within (x ∷ xs) zero p e = omega arith
at_within (x ∷ xs) (suc k) p e = let h : k < length xs = at_within xs k p e in omega arith

pub timed_within : (task : TaskParts) (o : Order) (s : ℕ) → IsWellMade task → is_timed (snap_of task s).kind ≡ true → IsTaken task o s → timed_count task o.steps + 1 ≤ timed_limit
timed_within task o s w h t = go (snap_of task s).kind h t.follows
  where
    few : length task.timed ≤ timed_limit
    few = let h : nat_le (length task.timed) timed_limit ≡ true = and_left _ _ (and_left _ _ w.timed) in grind (arith, nat_tests)

    go : (kind : SnapKind) → is_timed kind ≡ true → may_follow task o.steps s kind ≡ true → timed_count task o.steps + 1 ≤ timed_limit
    go Start h f = cc
    go End h f = cc
    go Instant h f = cc
    go Timed h f = let l : timed_count task o.steps < length task.timed = at_within task.timed (timed_count task o.steps) (λ t. t.1 == s) f in omega (arith, few)

pub plan_within : (task : TaskParts) (o : Order) (s : ℕ) → is_timed (snap_of task s).kind ≡ false → IsTaken task o s → plan_step_count task o.steps + 1 ≤ plan_step_limit
plan_within task o s h t = below (plan_step_count task o.steps) (go (is_timed (snap_of task s).kind) (nat_lt (plan_step_count task o.steps) plan_step_limit) h t.within)
  where
    go : (a b : Bool) → a ≡ false → (not a && not b) ≡ false → b ≡ true
    go a true e f = refl
    go true false e f = cc
    go false false e f = cc

    below : (n : ℕ) → nat_lt n plan_step_limit ≡ true → n + 1 ≤ plan_step_limit
    below n e = grind (arith, nat_tests)

-- a step by its kind, or the limit
pub refused_by_limit : (task : TaskParts) (o : StepOrdering) (s : ℕ) → o.plan_steps ≡ plan_step_count task o.steps → (not (is_timed (snap_of task s).kind) && not (nat_lt o.plan_steps plan_step_limit)) ≡ true → push_refusal task (order_of o) s ≡ Some Limit
unfolding push_refusal
refused_by_limit task o s e h = rw (rw e at h) refl

pub refused_by_kind : (task : TaskParts) (o : StepOrdering) (s : ℕ) → o.plan_steps ≡ plan_step_count task o.steps → (not (is_timed (snap_of task s).kind) && not (nat_lt o.plan_steps plan_step_limit)) ≡ false → push_refusal task (order_of o) s ≡ step_refusal (snap_of task s).kind (may_follow task o.steps s (snap_of task s).kind)
unfolding push_refusal
refused_by_kind task o s e h = rw (rw e at h) refl

pub start_apart : (task : TaskParts) (o : StepOrdering) (s : ℕ) → BuiltOver task o → IsTaken task (order_of o) s → (snap_of task s).kind ≡ Start → meet (option_to_list (snap_of task s).action) o.running ≡ false
start_apart task o s b t e = rw b.running (not_true (meet (option_to_list (snap_of task s).action) (running task o.steps)) (rw e at t.follows))

pub one_more : (b : Bool) (n : ℕ) → b ≡ true → n + 1 ≡ n + cond b 1 0
one_more b n e = rw e refl

pub none_more : (b : Bool) (n : ℕ) → b ≡ false → n ≡ n + cond b 1 0
none_more b n e = rw e (omega arith)

-- ---- lists with one more step

every_same : (n : ℕ) (p q : ℕ → Bool) → ((k : ℕ) → k < n → p k ≡ q k) → every n p ≡ every n q
every_same zero p q h = refl
every_same (suc n) p q h = rw (every_same n p q (λ k l. h k (omega arith)), h n (omega arith)) refl

abbrev follows : TaskParts → List ℕ → ℕ → Bool
follows task steps k = may_follow task (take k steps) (slice_index steps k) (snap_of task (slice_index steps k)).kind

one_longer : (xs : List ℕ) (s : ℕ) → length (xs ++ s ∷ []) ≡ suc (length xs)
one_longer xs s = omega (arith, length-append xs (s ∷ []))

follows_before : (task : TaskParts) (steps : List ℕ) (s k : ℕ) → k < length steps → follows task (steps ++ s ∷ []) k ≡ follows task steps k
follows_before task steps s k h = rw (get_or_append_left steps (s ∷ []) 0 k h, take-append-le k steps (s ∷ []) (omega arith)) refl

follows_last : (task : TaskParts) (steps : List ℕ) (s : ℕ) → follows task (steps ++ s ∷ []) (length steps) ≡ may_follow task steps s (snap_of task s).kind
follows_last task steps s = rw (at_done steps [] s, take_done steps (s ∷ [])) refl

every_more : (task : TaskParts) (steps : List ℕ) (s : ℕ) → every (length (steps ++ s ∷ [])) (follows task (steps ++ s ∷ [])) ≡ (every (length steps) (follows task steps) && may_follow task steps s (snap_of task s).kind)
every_more task steps s = ap (λ n. every n (follows task (steps ++ s ∷ []))) (one_longer steps s) ∙ rw (every_same (length steps) (follows task (steps ++ s ∷ [])) (follows task steps) (follows_before task steps s), follows_last task steps s) refl

count_more : (p : ℕ → Bool) (steps : List ℕ) (s : ℕ) → count_by p (steps ++ s ∷ []) ≡ count_by p steps + cond (p s) 1 0
count_more p steps s = sum_by-append (λ x. cond (p x) 1 0) steps (s ∷ []) ∙ omega arith

pub timed_more : (task : TaskParts) (steps : List ℕ) (s : ℕ) → timed_count task (steps ++ s ∷ []) ≡ timed_count task steps + cond (is_timed (snap_of task s).kind) 1 0
timed_more task steps s = count_more (λ s. is_timed (snap_of task s).kind) steps s

pub plan_more : (task : TaskParts) (steps : List ℕ) (s : ℕ) → plan_step_count task (steps ++ s ∷ []) ≡ plan_step_count task steps + cond (not (is_timed (snap_of task s).kind)) 1 0
plan_more task steps s = count_more (λ s. not (is_timed (snap_of task s).kind)) steps s

all_weaker : {X : Type 0} (p q : X → Bool) (xs : List X) → ((x : X) → p x ≡ true → q x ≡ true) → list_all p xs ≡ true → list_all q xs ≡ true
all_weaker p q [] h a = refl
all_weaker p q (x ∷ xs) h a = and_in (q x) (list_all q xs) (h x (and_left (p x) (list_all p xs) a)) (all_weaker p q xs h (and_right (p x) (list_all p xs) a))

abbrev is_forward : ℕ → ℕ × ℕ → Bool
is_forward n p = nat_lt p.0 p.1 && nat_lt p.1 n

still_forward : (n : ℕ) (p : ℕ × ℕ) → is_forward n p ≡ true → is_forward (suc n) p ≡ true
still_forward n p h = and_in (nat_lt p.0 p.1) (nat_lt p.1 (suc n)) (and_left (nat_lt p.0 p.1) (nat_lt p.1 n) h) (wider p.1 n (and_right (nat_lt p.0 p.1) (nat_lt p.1 n) h))
  where
    wider : (m n : ℕ) → nat_lt m n ≡ true → nat_lt m (suc n) ≡ true
    wider m n h = grind (arith, nat_tests)

few_more : (task : TaskParts) (o : Order) (s : ℕ) → nat_le (plan_step_count task o.steps) plan_step_limit ≡ true → IsTaken task o s → nat_le (plan_step_count task (o.steps ++ s ∷ [])) plan_step_limit ≡ true
few_more task o s h t = rw (plan_more task o.steps s) (go (is_timed (snap_of task s).kind) refl)
  where
    le_in : (n m : ℕ) → n ≤ m → nat_le n m ≡ true
    le_in n m h = grind (arith, nat_tests)

    go : (b : Bool) → is_timed (snap_of task s).kind ≡ b → nat_le (plan_step_count task o.steps + cond (not b) 1 0) plan_step_limit ≡ true
    go true e = subst (λ n. nat_le n plan_step_limit ≡ true) (omega arith) h
    go false e = le_in (plan_step_count task o.steps + 1) plan_step_limit (plan_within task o s e t)

pub built_more : (task : TaskParts) (o : Order) (s : ℕ) → IsTrue (is_built task o) → IsTaken task o s → IsTrue (is_built task (with_step o s))
unfolding is_built
built_more task o s b t = and_in _ _ (and_in _ _ (every_more task o.steps s ∙ and_in _ _ (and_left _ _ (and_left _ _ b)) t.follows) (few_more task o s (and_right _ _ (and_left _ _ b)) t))
    (rw (one_longer o.steps s) (all_weaker (is_forward (length o.steps)) (is_forward (suc (length o.steps))) o.extra (still_forward (length o.steps)) (and_right _ _ b)))

-- ---- what is refused would not be built

free : (kind : SnapKind) → step_refusal kind true ≡ None
free Start = refl
free End = refl
free Instant = refl
free Timed = refl

stays_within : (task : TaskParts) (o : Order) (s : ℕ) → nat_le (plan_step_count task (o.steps ++ s ∷ [])) plan_step_limit ≡ true → exceeds_limit task o (snap_of task s).kind ≡ false
stays_within task o s few = go (is_timed (snap_of task s).kind) (plan_step_count task o.steps) (subst (λ n. nat_le n plan_step_limit ≡ true) (plan_more task o.steps s) few)
  where
    go : (b : Bool) (n : ℕ) → nat_le (n + cond (not b) 1 0) plan_step_limit ≡ true → (not b && not (nat_lt n plan_step_limit)) ≡ false
    go true n h = refl
    go false n h = grind (arith, nat_tests)

may_have_followed : (task : TaskParts) (steps : List ℕ) (s : ℕ) → every (length (steps ++ s ∷ [])) (follows task (steps ++ s ∷ [])) ≡ true → may_follow task steps s (snap_of task s).kind ≡ true
may_have_followed task steps s h = and_right (every (length steps) (follows task steps)) (may_follow task steps s (snap_of task s).kind) (sym (every_more task steps s) ∙ h)

pub step_taken : (task : TaskParts) (o : Order) (s : ℕ) → IsTrue (is_built task (with_step o s)) → push_refusal task o s ≡ None
unfolding is_built push_refusal
step_taken task o s b = let few : nat_le (plan_step_count task (o.steps ++ s ∷ [])) plan_step_limit ≡ true = and_right _ _ (and_left _ _ b) in
    let each : every (length (o.steps ++ s ∷ [])) (follows task (o.steps ++ s ∷ [])) ≡ true = and_left _ _ (and_left _ _ b) in
    rw (stays_within task o s few, may_have_followed task o.steps s each) (free (snap_of task s).kind)

pair_open : (count i j : ℕ) → pair_refusal count (i + 1) (j + 1) ≡ None → (i < j) × (j < count)
pair_open count i j e = go (names_step count (i + 1)) (names_step count (j + 1)) (nat_lt (i + 1) (j + 1)) refl refl e
  where
    go : (a b l : Bool) → b ≡ names_step count (j + 1) → l ≡ nat_lt (i + 1) (j + 1) → (if a && b then (if l then None else Some Cycle) else Some UnknownStep) ≡ None → (i < j) × (j < count)
    go true true true f g e = (lt_out i j (sym g), le_out j count (and_right (nat_lt 0 (j + 1)) (nat_le (j + 1) count) (sym f)))
      where
        lt_out : (m n : ℕ) → nat_lt (m + 1) (n + 1) ≡ true → m < n
        lt_out m n h = grind (arith, nat_tests)

        le_out : (m n : ℕ) → nat_le (m + 1) n ≡ true → m < n
        le_out m n h = grind (arith, nat_tests)
    go true true false f g e = cc
    go true false l f g e = cc
    go false b l f g e = cc

pair_named : (count i j : ℕ) → i < j → j < count → pair_refusal count (i + 1) (j + 1) ≡ None
pair_named count i j h l = rw (named count i (omega arith), named count j l, lt_in (i + 1) (j + 1) (omega arith)) refl
  where
    lt_in : (m n : ℕ) → m < n → nat_lt m n ≡ true
    lt_in m n h = grind (arith, nat_tests)

    le_in : (m n : ℕ) → m ≤ n → nat_le m n ≡ true
    le_in m n h = grind (arith, nat_tests)

    named : (count i : ℕ) → i < count → names_step count (i + 1) ≡ true
    named count i h = and_in (nat_lt 0 (i + 1)) (nat_le (i + 1) count) (lt_in 0 (i + 1) (omega arith)) (le_in (i + 1) count (omega arith))

pub pair_taken : (task : TaskParts) (o : Order) (i j : ℕ) → IsTrue (is_built task o) → pair_refusal (length o.steps) (i + 1) (j + 1) ≡ None → IsTrue (is_built task (with_pair o (i + 1) (j + 1)))
unfolding is_built
pair_taken task o i j b e = let k = pair_open (length o.steps) i j e in
    and_in _ _ (and_left _ _ b) (list_all-append (is_forward (length o.steps)) o.extra ((i + 1 - 1, j + 1 - 1) ∷ []) ∙ and_in _ _ (and_right _ _ b) (and_in _ _ (and_in _ _ (lt_in (i + 1 - 1) (j + 1 - 1) (omega arith)) (lt_in (j + 1 - 1) (length o.steps) (omega arith))) refl))
  where
    lt_in : (m n : ℕ) → m < n → nat_lt m n ≡ true
    lt_in m n h = grind (arith, nat_tests)

pub pair_fits : (task : TaskParts) (o : Order) (i j : ℕ) → IsTrue (is_built task (with_pair o (i + 1) (j + 1))) → pair_refusal (length o.steps) (i + 1) (j + 1) ≡ None
unfolding is_built
pair_fits task o i j b = let forward : is_forward (length o.steps) (i + 1 - 1, j + 1 - 1) ≡ true = and_left _ _ (and_right _ _ (sym (list_all-append (is_forward (length o.steps)) o.extra ((i + 1 - 1, j + 1 - 1) ∷ [])) ∙ and_right _ _ b)) in
    let before : i + 1 - 1 < j + 1 - 1 = lt_out (i + 1 - 1) (j + 1 - 1) (and_left _ _ forward) in
    let inside : j + 1 - 1 < length o.steps = lt_out (j + 1 - 1) (length o.steps) (and_right _ _ forward) in
    pair_named (length o.steps) i j (omega arith) (omega arith)
  where
    lt_out : (m n : ℕ) → nat_lt m n ≡ true → m < n
    lt_out m n h = grind (arith, nat_tests)

-- ---- orderings

pub is_named : (count n : ℕ) → names_step count n ≡ true → (0 < n) × (n ≤ count)
is_named count n h = (lt_out 0 n (and_left (nat_lt 0 n) (nat_le n count) h), le_out n count (and_right (nat_lt 0 n) (nat_le n count) h))
  where
    lt_out : (m n : ℕ) → nat_lt m n ≡ true → m < n
    lt_out m n h = grind (arith, nat_tests)

    le_out : (m n : ℕ) → nat_le m n ≡ true → m ≤ n
    le_out m n h = grind (arith, nat_tests)

pub few_steps : (o : StepOrdering) → length o.steps ≤ 192
few_steps o = let counted : length o.steps ≡ o.plan_steps + o.timed_steps = o.counted in let plans : o.plan_steps ≤ plan_step_limit = o.few_plan_steps in let timed : o.timed_steps ≤ timed_limit = o.few_timed_steps in omega arith

pub over_none : (task : TaskParts) (o : StepOrdering) → o.steps ≡ [] → o.extra ≡ [] → o.running ≡ [] → o.plan_steps ≡ 0 → o.timed_steps ≡ 0 → BuiltOver task o
unfolding is_built
over_none task o s e r p t = record { built = rw (s, e) refl; in_range = rw s refl; running = rw s r; plan_steps = rw s p; timed_steps = rw s t }

pub over_step : (task : TaskParts) (o n : StepOrdering) (s : ℕ) → BuiltOver task o → s < length task.snaps → push_refusal task (order_of o) s ≡ None
    → n.steps ≡ o.steps ++ s ∷ [] → n.extra ≡ o.extra → n.running ≡ run_on (snap_of task s).kind (option_to_list (snap_of task s).action) o.running
    → n.plan_steps ≡ o.plan_steps + cond (not (is_timed (snap_of task s).kind)) 1 0 → n.timed_steps ≡ o.timed_steps + cond (is_timed (snap_of task s).kind) 1 0 → BuiltOver task n
over_step task o n s b l f steps extra runs plans timed = record {
  built = let e : order_of n ≡ with_step (order_of o) s = rw (steps, extra) refl in rw e (built_more task (order_of o) s b.built (is_taken task (order_of o) s f));
  in_range = rw steps (list_all-append (λ s. nat_lt s (length task.snaps)) o.steps (s ∷ []) ∙ and_in _ _ b.in_range (and_in _ _ (lt_in s (length task.snaps) l) refl));
  running = runs ∙ rw (steps, running-more task o.steps s, b.running) refl;
  plan_steps = plans ∙ rw (steps, plan_more task o.steps s, b.plan_steps) refl;
  timed_steps = timed ∙ rw (steps, timed_more task o.steps s, b.timed_steps) refl;
}
  where
    lt_in : (m n : ℕ) → m < n → nat_lt m n ≡ true
    lt_in m n h = grind (arith, nat_tests)

pub over_pair : (task : TaskParts) (o n : StepOrdering) (i j : ℕ) → BuiltOver task o → i < j → j < length o.steps
    → n.steps ≡ o.steps → n.extra ≡ o.extra ++ (i, j) ∷ [] → n.running ≡ o.running → n.plan_steps ≡ o.plan_steps → n.timed_steps ≡ o.timed_steps → BuiltOver task n
unfolding is_built
over_pair task o n i j b h l steps extra runs plans timed = record {
  built = rw (steps, extra) (and_in _ _ (and_left _ _ b.built) (list_all-append (is_forward (length o.steps)) o.extra ((i, j) ∷ []) ∙ and_in _ _ (and_right _ _ b.built) (forward i j (length o.steps) h l)));
  in_range = rw steps b.in_range;
  running = rw steps (runs ∙ b.running);
  plan_steps = rw steps (plans ∙ b.plan_steps);
  timed_steps = rw steps (timed ∙ b.timed_steps);
}
  where
    forward : (i j n : ℕ) → i < j → j < n → list_all (is_forward n) ((i, j) ∷ []) ≡ true
    forward i j n h l = and_in _ _ (and_in _ _ (lt_in i j h) (lt_in j n l)) refl
      where
        lt_in : (m n : ℕ) → m < n → nat_lt m n ≡ true
        lt_in m n h = grind (arith, nat_tests)
