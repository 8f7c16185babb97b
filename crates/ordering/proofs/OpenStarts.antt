-- No action runs after a list of steps exactly where no start among them is open.
use Rattle.std.proofs.Common.{◌≡◌, ◌≢◌, refl, sym, ap, ◌∙◌, ℕ, suc, ◌+◌, ◌<◌, ◌≤◌, length, get_or, drop, drop-cons, add-one, Bool, true, false, cond, not, ◌&&◌, ◌||◌, ◌==◌, List, [], ◌∷◌, arith, Option, Some, None}
use Rattle.std.specs.Prelude.{option_to_list, is_none, if◌then◌else◌, IsTrue}
use Rattle.std.specs.List.{filter, list_any, list_all, fold}
use Rattle.std.proofs.lemmas.Bool.Decides.{nat_tests}
use Rattle.std.proofs.Math.ListN.{drop_of_length-le}
use Rattle.std.proofs.lemmas.List.{append-nil}
use Rattle.std.proofs.lemmas.List.Folds.{list_all-append}
use Rattle.task_types.specs.declared.actions.SnapKind.{SnapKind}
use Rattle.task_types.specs.declared.actions.SnapKind.TheVariants.{Start, End, Instant, Timed}
use Rattle.task_types.specs.declared.parts.TaskParts.{TaskParts}
use Rattle.task_types.specs.Sets.{is_in}
use Rattle.task_types.specs.Plan.{snap_of}
use Rattle.task_types.specs.WellMade.{is_start}
use Rattle.task_types.specs.Order.{Order, run_on, is_built, is_closed, timed_count, IsClosedOrdering}
use Rattle.ordering.specs.declared.faults.OrderFault.{OrderFault}
use Rattle.ordering.specs.declared.faults.OrderFault.TheVariants.{OpenAction, TilMissing}
use Rattle.ordering.specs.Refusals.{is_open, is_end, first_open, lacking, closing_refusal}

-- the action of an end, from its kind and its action
abbrev ended_by : SnapKind → Option ℕ → List ℕ
ended_by kind own = filter (λ a. is_end kind) (option_to_list own)

abbrev started_by : SnapKind → Option ℕ → List ℕ
started_by kind own = filter (λ a. is_start kind) (option_to_list own)

-- some later step ends the action
abbrev is_ended : TaskParts → List ℕ → ℕ → Bool
is_ended task later a = list_any (λ e. is_in a (ended_by (snap_of task e).kind (snap_of task e).action)) later

abbrev run_all : TaskParts → List ℕ → List ℕ → List ℕ
run_all task actions steps = fold (λ actions s. run_on (snap_of task s).kind (option_to_list (snap_of task s).action) actions) actions steps

and_true : (b : Bool) → b ≡ (b && true)
and_true true = refl
and_true false = refl

all_same : {X : Type 0} (p q : X → Bool) (xs : List X) → ((x : X) → p x ≡ q x) → list_all p xs ≡ list_all q xs
all_same p q [] h = refl
all_same p q (x ∷ xs) h = rw (h x, all_same p q xs h) refl

all_of_chosen : {X : Type 0} (p q : X → Bool) (xs : List X) → list_all p (filter q xs) ≡ list_all (λ x. not (q x) || p x) xs
all_of_chosen p q [] = refl
all_of_chosen p q (x ∷ xs) = go (q x) (all_of_chosen p q xs)
  where
    go : (b : Bool) → list_all p (filter q xs) ≡ list_all (λ x. not (q x) || p x) xs → list_all p (cond b (x ∷ filter q xs) (filter q xs)) ≡ ((not b || p x) && list_all (λ x. not (q x) || p x) xs)
    go true e = ap (λ b. p x && b) e
    go false e = e

-- one step: what runs before it is ended by it or later, and it isn't open itself
one_step : (kind : SnapKind) (own : Option ℕ) (p : ℕ → Bool) (actions : List ℕ) → list_all p (run_on kind (option_to_list own) actions) ≡ (list_all (λ a. is_in a (ended_by kind own) || p a) actions && not (list_any (λ a. not (p a)) (started_by kind own)))
one_step Start None p actions = ap (list_all p) (append-nil actions) ∙ and_true (list_all p actions)
one_step Start (Some a) p actions = list_all-append p actions (a ∷ []) ∙ both_ways (list_all p actions) (p a)
  where
    both_ways : (b c : Bool) → (b && (c && true)) ≡ (b && not (not c || false))
    both_ways true true = refl
    both_ways true false = refl
    both_ways false c = refl
one_step End None p actions = all_of_chosen p (λ a. true) actions ∙ and_true (list_all p actions)
one_step End (Some a) p actions = all_of_chosen p (λ b. not (is_in b (a ∷ []))) actions ∙ all_same (λ b. not (not (is_in b (a ∷ []))) || p b) (λ b. is_in b (a ∷ []) || p b) actions (λ b. ap (λ c. c || p b) (not_not (is_in b (a ∷ [])))) ∙ and_true (list_all (λ b. is_in b (a ∷ []) || p b) actions)
  where
    not_not : (b : Bool) → not (not b) ≡ b
    not_not true = refl
    not_not false = refl
one_step Instant None p actions = and_true (list_all p actions)
one_step Instant (Some a) p actions = and_true (list_all p actions)
one_step Timed None p actions = and_true (list_all p actions)
one_step Timed (Some a) p actions = and_true (list_all p actions)

none_runs : (task : TaskParts) (n : ℕ) (actions steps : List ℕ) → list_all (λ a. false) (run_all task actions steps) ≡ (list_all (is_ended task steps) actions && is_none (first_open task n steps))
none_runs task n actions [] = and_true (list_all (λ a. false) actions)
none_runs task n actions (s ∷ ss) = none_runs task (n + 1) (run_on (snap_of task s).kind (option_to_list (snap_of task s).action) actions) ss
    ∙ ap (λ b. b && is_none (first_open task (n + 1) ss)) (one_step (snap_of task s).kind (snap_of task s).action (is_ended task ss) actions)
    ∙ first (list_all (is_ended task (s ∷ ss)) actions) (is_open task s ss) (first_open task (n + 1) ss)
  where
    first : (a o : Bool) (later : Option ℕ) → ((a && not o) && is_none later) ≡ (a && is_none (if o then Some n else later))
    first true true later = refl
    first true false later = refl
    first false o later = refl

-- An ordering is closed exactly where nothing keeps it from being so.
pub closed_by_refusal : (task : TaskParts) (o : Order) → is_closed task o ≡ is_none (closing_refusal task o)
unfolding is_closed closing_refusal
closed_by_refusal task o = ap (λ b. b && (timed_count task o.steps == length task.timed)) (none_runs task 0 [] o.steps) ∙ go (first_open task 0 o.steps) (timed_count task o.steps == length task.timed)
  where
    go : (k : Option ℕ) (b : Bool) → (is_none k && b) ≡ is_none (lacking k b)
    go None true = refl
    go None false = refl
    go (Some k) b = refl

pub closed_where_none : (task : TaskParts) (o : Order) → IsTrue (is_built task o) → closing_refusal task o ≡ None → IsClosedOrdering task o
closed_where_none task o b e = record { built = b; closed = closed_by_refusal task o ∙ rw e refl }

pub not_closed : (task : TaskParts) (o : Order) (fault : OrderFault) → closing_refusal task o ≡ Some fault → IsClosedOrdering task o → ⊥
not_closed task o fault e c = let f : false ≡ true = sym (closed_by_refusal task o ∙ rw e refl) ∙ c.closed in cc

pub lacks_end : (task : TaskParts) (o : Order) (k : ℕ) → first_open task 0 o.steps ≡ Some k → closing_refusal task o ≡ Some (OpenAction (k + 1))
unfolding closing_refusal
lacks_end task o k e = rw e refl

pub lacks_nothing : (task : TaskParts) (o : Order) → first_open task 0 o.steps ≡ None → timed_count task o.steps ≡ length task.timed → closing_refusal task o ≡ None
unfolding closing_refusal
lacks_nothing task o e t = rw (e, equal (timed_count task o.steps) (length task.timed) t) refl
  where
    equal : (n m : ℕ) → n ≡ m → (n == m) ≡ true
    equal n m e = grind (arith, nat_tests)

pub lacks_timed : (task : TaskParts) (o : Order) → first_open task 0 o.steps ≡ None → timed_count task o.steps ≢ length task.timed → closing_refusal task o ≡ Some TilMissing
unfolding closing_refusal
lacks_timed task o e t = rw (e, unequal (timed_count task o.steps) (length task.timed) t) refl
  where
    unequal : (n m : ℕ) → n ≢ m → (n == m) ≡ false
    unequal n m e = grind (arith, nat_tests)

pub none_where_closed : (task : TaskParts) (o : Order) → IsClosedOrdering task o → closing_refusal task o ≡ None
none_where_closed task o c = none_out (closing_refusal task o) (sym (closed_by_refusal task o) ∙ c.closed)
  where
    none_out : (r : Option OrderFault) → is_none r ≡ true → r ≡ None
    none_out None e = refl
    none_out (Some fault) e = cc

-- ---- the search for an open start, place by place

pub open_here : (task : TaskParts) (steps : List ℕ) (k s : ℕ) → k < length steps → s ≡ get_or steps k s → is_open task s (drop (k + 1) steps) ≡ true → first_open task k (drop k steps) ≡ Some k
open_here task steps k s h e o = rw (drop-cons steps k s h, sym e) (rw (rw add-one at o) refl)

pub open_later : (task : TaskParts) (steps : List ℕ) (k s : ℕ) → k < length steps → s ≡ get_or steps k s → is_open task s (drop (k + 1) steps) ≡ false → first_open task k (drop k steps) ≡ first_open task (k + 1) (drop (k + 1) steps)
open_later task steps k s h e o = rw (drop-cons steps k s h, sym e, (rw add-one at o)) (rw add-one refl)

pub none_open : (task : TaskParts) (steps : List ℕ) (k : ℕ) → length steps ≤ k → first_open task k (drop k steps) ≡ None
none_open task steps k h = rw (drop_of_length-le steps h) refl

pub open_within : (task : TaskParts) (n k : ℕ) (steps : List ℕ) → first_open task n steps ≡ Some k → k < n + length steps
open_within task n k [] e = cc
open_within task n k (s ∷ ss) e = go (is_open task s ss) e (λ f. open_within task (n + 1) k ss f)
  where
    go : (b : Bool) → (if b then Some n else first_open task (n + 1) ss) ≡ Some k → (first_open task (n + 1) ss ≡ Some k → k < (n + 1) + length ss) → k < n + suc (length ss)
    go true e f = let g : n ≡ k = cc in omega arith
    go false e f = let g : k < (n + 1) + length ss = f e in omega arith
