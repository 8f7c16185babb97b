-- What a constraint asks of the states along a list and of the states in time: both are walks through the changes of
-- its facts.
use Rattle.std.proofs.Common.{◌≡◌, refl, sym, ap, ap₂, subst, ◌∙◌, ℕ, zero, suc, ◌+◌, ◌<◌, Bool, true, false, cond, not, ◌&&◌, ◌||◌, List, [], ◌∷◌, ◌++◌, map, length, take, arith, append_assoc, length-append, inl, inr}
use Rattle.std.specs.Prelude.{if◌then◌else◌, slice_index_or}
use Rattle.std.specs.List.{list_all, list_any, filter, range_with_len, AllByRecursion}
use Rattle.std.proofs.Math.Seq.{take-append_seam}
use Rattle.std.proofs.lemmas.List.{append-nil, length-map}
use Rattle.std.proofs.lemmas.List.Elements.{filter-append}
use Rattle.rational.specs.Rational.{ℚ, zeroℚ, ◌<ℚ◌}
use Rattle.rational.proofs.Inequalities.{lt_trans}
use Rattle.task_types.specs.declared.constraints.Trail.{Trail}
use Rattle.task_types.specs.declared.constraints.TrailKind.{TrailKind}
use Rattle.task_types.specs.declared.constraints.TrailKind.TheVariants.{Always, Sometime, Within, AtMostOnce, SometimeAfter, SometimeBefore, AtEnd}
use Rattle.task_types.specs.declared.parts.TaskParts.{TaskParts}
use Rattle.task_types.specs.Tests.{◌≤?◌, ◌⇒◌}
use Rattle.task_types.specs.Sets.{is_in, numbers}
use Rattle.task_types.specs.State.{State, tree_holds}
use Rattle.task_types.specs.Plan.{Plan, Step, snap_of, steps, happenings}
use Rattle.task_types.specs.Course.{after, state_after, time_of, count}
use Rattle.task_types.specs.Touch.{tree_facts, trail_facts}
use Rattle.task_types.specs.Trace.{Moment, trace}
use Rattle.task_types.specs.Blocking.{facts_after, list_trace}
use Rattle.task_types.specs.Laws.{Ascends, none_later, run_ends, one_run, are_answered, are_prepared, ends_with, kept_along}
use Rattle.task_types.proofs.Assigning.{is_in-left}
use Rattle.task_types.proofs.ByNumber.{after-number}
use Rattle.task_types.proofs.Comparisons.{later_out, lt_in}
use Rattle.task_types.proofs.Everyone.{all_map}
use Rattle.task_types.proofs.Happenings.{Among, happenings-times}
use Rattle.task_types.proofs.SetApart.{in_right}
use Rattle.task_types.proofs.Unordered.{every_reordered}
use Rattle.ordering.specs.Along.{at_first, carried, changes_fact, tied_apart, Follows, AreInOrder}
use Rattle.ordering.specs.Laws.{Tells}
use Rattle.ordering.proofs.ByTime.{after-by_time, filter_both, all_kept, same_where}
use Rattle.ordered_course.specs.Walks.{Walks}
use Rattle.ordered_course.proofs.BlockedSteps.{each_happens}
use Rattle.ordered_course.proofs.ListFacts.{facts_listed}
use Rattle.ordered_course.proofs.Stories.{walks_alike}
use Rattle.ordered_course.proofs.TreeFacts.{holds_alike}
use Rattle.ordered_course.proofs.TwoWalks.{counts, list_walk, count_up_to, time_walk, facts_by_changers}
use Rattle.basics.proofs.Lists.{each_map}

-- ---- lists by their places

-- what is told of each first part of a list
abbrev along : {X Y : Type 0} → (List X → Y) → List X → List Y
along G [] = G [] ∷ []
along G (x ∷ xs) = G [] ∷ along (λ l. G (x ∷ l)) xs

later_places : {Y : Type 0} (h : ℕ → Y) (i n : ℕ) → map h (range_with_len (suc i) n) ≡ map (λ k. h (suc k)) (range_with_len i n)
later_places h i zero = refl
later_places h i (suc n) = ap (λ l. h (suc i) ∷ l) (subst (λ j. map h (range_with_len j n) ≡ map (λ k. h (suc k)) (range_with_len (i + 1) n)) (one_more i) (later_places h (i + 1) n))
  where
    one_more : (i : ℕ) → suc (i + 1) ≡ suc i + 1
    one_more i = omega arith

from_one : {Y : Type 0} (h : ℕ → Y) (n : ℕ) → map h (range_with_len 1 n) ≡ map (λ k. h (suc k)) (range_with_len 0 n)
from_one h n = later_places h 0 n

by_places : {X Y : Type 0} (G : List X → Y) (xs : List X) → map (λ k. G (take k xs)) (range_with_len 0 (suc (length xs))) ≡ along G xs
by_places G [] = refl
by_places G (x ∷ xs) = ap (λ l. G [] ∷ l) (from_one (λ k. G (take k (x ∷ xs))) (suc (length xs)) ∙ by_places (λ l. G (x ∷ l)) xs)

along_map : {X Y Z : Type 0} (G : List Y → Z) (f : X → Y) (xs : List X) → along G (map f xs) ≡ along (λ l. G (map f l)) xs
along_map G f [] = refl
along_map G f (x ∷ xs) = ap (λ l. G [] ∷ l) (along_map (λ l. G (f x ∷ l)) f xs)

along_same : {X Y : Type 0} (G H : List X → Y) (xs : List X) → ((l : List X) → G l ≡ H l) → along G xs ≡ along H xs
along_same G H [] h = ap (λ y. y ∷ []) (h [])
along_same G H (x ∷ xs) h = ap₂ (λ y l. y ∷ l) (h []) (along_same (λ l. G (x ∷ l)) (λ l. H (x ∷ l)) xs (λ l. h (x ∷ l)))

each_place : {Y : Type 0} (f : ℕ → Y) (g : ℚ → Y) (ts : List ℚ) → ((k : ℕ) → k < length ts → f k ≡ g (slice_index_or ts k zeroℚ)) → map f (range_with_len 0 (length ts)) ≡ map g ts
each_place f g [] h = refl
each_place f g (t ∷ ts) h = ap₂ (λ y l. y ∷ l) (h 0 (omega arith)) (from_one f (length ts) ∙ each_place (λ k. f (suc k)) g ts (λ k l. h (suc k) (omega arith)))

map_twice : {X Y Z : Type 0} (g : Y → Z) (f : X → Y) (xs : List X) → map g (map f xs) ≡ map (λ x. g (f x)) xs
map_twice g f [] = refl
map_twice g f (x ∷ xs) = ap (λ l. g (f x) ∷ l) (map_twice g f xs)

-- ---- what a constraint asks depends on the truths of its two formulas alone

abbrev Truths : Type 0
Truths = Bool × Bool

module _ {M : Type 0} (t : M → Truths) where
  abbrev a : M → Bool
  a m = (t m).0

  abbrev b : M → Bool
  b m = (t m).1

  abbrev c : Truths → Bool
  c q = q.0

  abbrev d : Truths → Bool
  d q = q.1

  all_told : (ms : List M) → list_all a ms ≡ list_all c (map t ms)
  all_told [] = refl
  all_told (m ∷ ms) = ap (λ x. a m && x) (all_told ms)

  some_told : (ms : List M) → list_any a ms ≡ list_any c (map t ms)
  some_told [] = refl
  some_told (m ∷ ms) = ap (λ x. a m || x) (some_told ms)

  answer_told : (ms : List M) → list_any b ms ≡ list_any d (map t ms)
  answer_told [] = refl
  answer_told (m ∷ ms) = ap (λ x. b m || x) (answer_told ms)

  none_told : (ms : List M) → none_later a ms ≡ none_later c (map t ms)
  none_told [] = refl
  none_told (m ∷ ms) = ap (λ x. not (a m) && x) (none_told ms)

  ending_told : (ms : List M) → run_ends a ms ≡ run_ends c (map t ms)
  ending_told [] = refl
  ending_told (m ∷ ms) = ap₂ (λ x y. if a m then x else y) (ending_told ms) (none_told ms)

  once_told : (ms : List M) → one_run a ms ≡ one_run c (map t ms)
  once_told [] = refl
  once_told (m ∷ ms) = ap₂ (λ x y. if a m then x else y) (ending_told ms) (once_told ms)

  answered_told : (ms : List M) → are_answered a b ms ≡ are_answered c d (map t ms)
  answered_told [] = refl
  answered_told (m ∷ ms) = ap₂ (λ x y. (a m ⇒ (b m || x)) && y) (answer_told ms) (answered_told ms)

  prepared_told : (seen : Bool) (ms : List M) → are_prepared seen a b ms ≡ are_prepared seen c d (map t ms)
  prepared_told seen [] = refl
  prepared_told seen (m ∷ ms) = ap (λ x. (a m ⇒ seen) && x) (prepared_told (seen || b m) ms)

  end_told : (ms : List M) → ends_with a ms ≡ ends_with c (map t ms)
  end_told [] = refl
  end_told (m ∷ []) = refl
  end_told (m ∷ n ∷ ms) = end_told (n ∷ ms)

  kept_told : (kind : TrailKind) → (kind ≡ Within → ⊥) → (soon : M → Bool) (late : Truths → Bool) (ms : List M) → kept_along kind (λ m. (t m).0) (λ m. (t m).1) soon ms ≡ kept_along kind (λ q. q.0) (λ q. q.1) late (map t ms)
  kept_told Always w soon late ms = all_told ms
  kept_told Sometime w soon late ms = some_told ms
  kept_told Within w soon late ms = absurd (w refl)
  kept_told AtMostOnce w soon late ms = once_told ms
  kept_told SometimeAfter w soon late ms = answered_told ms
  kept_told SometimeBefore w soon late ms = prepared_told false ms
  kept_told AtEnd w soon late ms = end_told ms

-- ---- steps in the order of their times

up_to_none : (t : ℚ) (xs : List Step) → AllByRecursion (λ c. t <ℚ c) (map (λ x. x.time) xs) → filter (λ s. s.time ≤? t) xs ≡ []
up_to_none t [] h = refl
up_to_none t (x ∷ xs) h = ap (λ b. cond b (x ∷ filter (λ s. s.time ≤? t) xs) (filter (λ s. s.time ≤? t) xs)) (ap not (lt_in t x.time h.0)) ∙ up_to_none t xs h.1

count_is : (t : ℚ) (xs : List Step) → count_up_to t (map (λ x. x.time) xs) ≡ length (filter (λ s. s.time ≤? t) xs)
count_is t [] = refl
count_is t (x ∷ xs) = go (x.time ≤? t) (count_is t xs)
  where
    go : (b : Bool) → count_up_to t (map (λ x. x.time) xs) ≡ length (filter (λ s. s.time ≤? t) xs) → length (cond b (x.time ∷ filter (λ c. c ≤? t) (map (λ x. x.time) xs)) (filter (λ c. c ≤? t) (map (λ x. x.time) xs))) ≡ length (cond b (x ∷ filter (λ s. s.time ≤? t) xs) (filter (λ s. s.time ≤? t) xs))
    go true e = ap suc e
    go false e = e

take_none : {X : Type 0} (xs : List X) → take 0 xs ≡ []
take_none [] = refl
take_none (x ∷ xs) = refl

-- of steps in the order of their times, those up to an instant are the first ones
first_ones : (t : ℚ) (xs : List Step) → Ascends (map (λ x. x.time) xs) → filter (λ s. s.time ≤? t) xs ≡ take (length (filter (λ s. s.time ≤? t) xs)) xs
first_ones t [] h = refl
first_ones t (x ∷ xs) h = go (x.time ≤? t) refl (first_ones t xs h.1)
  where
    later : t <ℚ x.time → AllByRecursion (λ c. t <ℚ c) (map (λ x. x.time) xs)
    later l = all_map (λ u. x.time <ℚ u) (λ c. t <ℚ c) (map (λ x. x.time) xs) (λ u k. lt_trans t x.time u l k) h.0

    go : (b : Bool) → (x.time ≤? t) ≡ b → filter (λ s. s.time ≤? t) xs ≡ take (length (filter (λ s. s.time ≤? t) xs)) xs
        → cond b (x ∷ filter (λ s. s.time ≤? t) xs) (filter (λ s. s.time ≤? t) xs) ≡ take (length (cond b (x ∷ filter (λ s. s.time ≤? t) xs) (filter (λ s. s.time ≤? t) xs))) (x ∷ xs)
    go true e r = ap (λ l. x ∷ l) r
    go false e r = let none = up_to_none t xs (later (later_out x.time t e)) in rw none refl

-- steps each of which has to come before each later one are in the order of their times
pub ascending_times : (task : TaskParts) (p : Step → Bool) (xs : List Step) → AreInOrder task xs → ((x y : Step) → p x ≡ true → p y ≡ true → tied_apart task (snap_of task x.snap) (snap_of task y.snap) ≡ true) → Ascends (map (λ x. x.time) (filter p xs))
ascending_times task p [] h tied = tt
ascending_times task p (x ∷ xs) h tied = go (p x) refl (ascending_times task p xs h.1 tied)
  where
    later : p x ≡ true → (ys : List Step) → AllByRecursion (Follows task x) ys → AllByRecursion (λ u. x.time <ℚ u) (map (λ x. x.time) (filter p ys))
    later e [] a = tt
    later e (y ∷ ys) a = one (p y) refl (later e ys a.1)
      where
        one : (b : Bool) → p y ≡ b → AllByRecursion (λ u. x.time <ℚ u) (map (λ x. x.time) (filter p ys)) → AllByRecursion (λ u. x.time <ℚ u) (map (λ x. x.time) (cond b (y ∷ filter p ys) (filter p ys)))
        one true q r = (a.0.later (tied x y e q), r)
        one false q r = r

    go : (b : Bool) → p x ≡ b → Ascends (map (λ x. x.time) (filter p xs)) → Ascends (map (λ x. x.time) (cond b (x ∷ filter p xs) (filter p xs)))
    go true e r = (later e xs h.0, r)
    go false e r = r

each_among_more : (t : ℚ) (ts us : List ℚ) → AllByRecursion (λ u. Among u ts) us → AllByRecursion (λ u. Among u (t ∷ ts)) us
each_among_more t ts us h = all_map (λ u. Among u ts) (λ u. Among u (t ∷ ts)) us (λ u m. inr m) h

each_among_itself : (ts : List ℚ) → AllByRecursion (λ u. Among u ts) ts
each_among_itself [] = tt
each_among_itself (t ∷ ts) = (inl refl, each_among_more t ts ts (each_among_itself ts))

-- ---- the two walks

module _ (task : TaskParts) (plan : Plan) (ss : List Step) (tells : Tells task plan ss) (order : AreInOrder task ss) (trail : Trail)
    (p : Step → Bool)
    (quiet : (x : Step) → p x ≡ false → (f : ℕ) → is_in f (trail_facts trail) ≡ true → changes_fact (snap_of task x.snap) f ≡ false)
    (tied : (x y : Step) → p x ≡ true → p y ≡ true → tied_apart task (snap_of task x.snap) (snap_of task y.snap) ≡ true) where
  abbrev truths : (ℕ → Bool) → Truths
  truths facts = (tree_holds trail.first facts, tree_holds trail.second facts)

  abbrev pair : Bool → Bool → Truths
  pair x y = (x, y)

  same_truths : (facts there : ℕ → Bool) → ((f : ℕ) → is_in f (trail_facts trail) ≡ true → facts f ≡ there f) → truths facts ≡ truths there
  same_truths facts there h = ap₂ pair (holds_alike facts there trail.first (λ f i. h f (is_in-left f (tree_facts trail.first) (tree_facts trail.second) i))) (holds_alike facts there trail.second (λ f i. h f (in_right f (tree_facts trail.first) (tree_facts trail.second) i)))

  abbrev changers : List Step
  changers = filter p ss

  -- the truths after some of the steps that change facts of the constraint
  abbrev told : ℕ → Truths
  told j = truths (carried task (take j changers)).facts

  -- a list carries what those of its steps do that change facts of the constraint
  by_changers : (xs : List Step) (f : ℕ) → is_in f (trail_facts trail) ≡ true → (carried task xs).facts f ≡ (carried task (filter p xs)).facts f
  by_changers xs f i = facts_by_changers task p f (at_first task) (at_first task) xs (λ x e. quiet x e f i) refl

  -- ---- along the list

  seam : (pre suf : List Step) → pre ++ suf ≡ ss → take (length (filter p pre)) changers ≡ filter p pre
  seam pre suf e = subst (λ l. take (length (filter p pre)) (filter p l) ≡ filter p pre) e (ap (take (length (filter p pre))) (filter-append p pre suf) ∙ take-append_seam (filter p pre) (filter p suf))

  here : (pre suf : List Step) → pre ++ suf ≡ ss → truths (facts_after task (map (λ x. x.snap) pre)) ≡ told (length (filter p pre))
  here pre suf e = ap truths (sym (facts_listed task pre))
      ∙ same_truths (carried task pre).facts (carried task (filter p pre)).facts (by_changers pre)
      ∙ ap (λ (l : List Step). truths (carried task l).facts) (sym (seam pre suf e))

  counted : (pre : List Step) (x : Step) → length (filter p (pre ++ x ∷ [])) ≡ (if p x then suc (length (filter p pre)) else length (filter p pre))
  counted pre x = ap length (filter-append p pre (x ∷ [])) ∙ length-append (filter p pre) (filter p (x ∷ [])) ∙ go (p x)
    where
      go : (b : Bool) → length (filter p pre) + length (cond b (x ∷ []) []) ≡ (if b then suc (length (filter p pre)) else length (filter p pre))
      go true = omega arith
      go false = omega arith

  walked : (pre suf : List Step) → pre ++ suf ≡ ss → along (λ l. truths (facts_after task (map (λ x. x.snap) (pre ++ l)))) suf ≡ map told (counts p (length (filter p pre)) suf)
  walked pre [] e = ap (λ q. q ∷ []) (ap (λ (l : List Step). truths (facts_after task (map (λ x. x.snap) l))) (append-nil pre) ∙ here pre [] e)
  walked pre (x ∷ xs) e = ap₂ (λ (q : Truths) (l : List Truths). q ∷ l)
      (ap (λ (l : List Step). truths (facts_after task (map (λ x. x.snap) l))) (append-nil pre) ∙ here pre (x ∷ xs) e)
      (along_same (λ l. truths (facts_after task (map (λ x. x.snap) (pre ++ x ∷ l)))) (λ l. truths (facts_after task (map (λ x. x.snap) ((pre ++ x ∷ []) ++ l)))) xs (λ l. ap (λ (m : List Step). truths (facts_after task (map (λ x. x.snap) m))) (sym (append_assoc pre (x ∷ []) l)))
      ∙ walked (pre ++ x ∷ []) xs (append_assoc pre (x ∷ []) xs ∙ e)
      ∙ ap (λ i. map told (counts p i xs)) (counted pre x))

  abbrev told_of : Moment → Truths
  told_of m = truths m.facts

  list_told : map told_of (list_trace task (map (λ x. x.snap) ss)) ≡ map told (counts p 0 ss)
  list_told = map_twice told_of (λ (k : ℕ). record { facts = facts_after task (take k (map (λ x. x.snap) ss)); time = zeroℚ }) (numbers (length (map (λ x. x.snap) ss) + 1))
      ∙ subst (λ n. map (λ k. truths (facts_after task (take k (map (λ x. x.snap) ss)))) (range_with_len 0 n) ≡ map told (counts p 0 ss)) (sym (one_more (length (map (λ x. x.snap) ss))))
      (by_places (λ l. truths (facts_after task l)) (map (λ x. x.snap) ss) ∙ along_map (λ l. truths (facts_after task l)) (λ x. x.snap) ss ∙ walked [] ss refl)
    where
      one_more : (n : ℕ) → n + 1 ≡ suc n
      one_more n = omega arith

  -- ---- in time

  times_ascend : Ascends (map (λ x. x.time) changers)
  times_ascend = ascending_times task p ss order tied

  abbrev change_times : List ℚ
  change_times = map (λ x. x.time) changers

  commuted : (q : Step → Bool) → filter p (filter q ss) ≡ filter q (filter p ss)
  commuted q = filter_both p q ss ∙ same_where (λ x. q x && p x) (λ x. p x && q x) ss (λ x. swapped (q x) (p x)) ∙ sym (filter_both q p ss)
    where
      swapped : (b c : Bool) → (b && c) ≡ (c && b)
      swapped true true = refl
      swapped true false = refl
      swapped false true = refl
      swapped false false = refl

  -- the truths in the state after an instant
  at_instant : (t : ℚ) → truths (after task plan t).facts ≡ told (0 + count_up_to t change_times)
  at_instant t = ap (λ (s : State). truths s.facts) (after-by_time task plan ss tells t)
      ∙ same_truths (carried task (filter (λ s. s.time ≤? t) ss)).facts (carried task (filter p (filter (λ s. s.time ≤? t) ss))).facts (by_changers (filter (λ s. s.time ≤? t) ss))
      ∙ ap (λ (l : List Step). truths (carried task l).facts) (commuted (λ s. s.time ≤? t) ∙ first_ones t changers times_ascend ∙ ap (λ n. take n changers) (sym (count_is t changers) ∙ none_more (count_up_to t change_times)))
    where
      none_more : (n : ℕ) → n ≡ 0 + n
      none_more n = omega arith

  trace_told : map told_of (trace task plan) ≡ map told (0 ∷ map (λ t. 0 + count_up_to t change_times) (happenings task plan))
  trace_told = ap₂ (λ (q : Truths) (l : List Truths). q ∷ l) (ap (λ (l : List Step). truths (carried task l).facts) (sym (take_none changers)))
      (map_twice told_of (λ (k : ℕ). record { facts = (state_after task plan k).facts; time = time_of task plan k }) (numbers (count task plan))
      ∙ each_place (λ k. truths (state_after task plan k).facts) (λ t. told (0 + count_up_to t change_times)) (happenings task plan) (λ k l. ap (λ (s : State). truths s.facts) (sym (after-number task plan k l)) ∙ at_instant (time_of task plan k))
      ∙ sym (map_twice told (λ t. 0 + count_up_to t change_times) (happenings task plan)))

  among_happenings : AllByRecursion (λ c. Among c (happenings task plan)) change_times
  among_happenings = each_map (λ c. Among c (happenings task plan)) (λ x. x.time) changers
      (all_kept (λ x. Among x.time (happenings task plan)) p ss (every_reordered (λ x. Among x.time (happenings task plan)) (steps task plan) ss tells.same (each_happens (λ t. Among t (happenings task plan)) task plan (each_among_itself (happenings task plan)))))

  time_walks : Walks (length changers) 0 (0 ∷ map (λ t. 0 + count_up_to t change_times) (happenings task plan))
  time_walks = subst (λ n. Walks n 0 (0 ∷ map (λ t. 0 + count_up_to t change_times) (happenings task plan))) (length-map changers (λ x. x.time))
      (time_walk (happenings task plan) change_times 0 (happenings-times task plan).ascends times_ascend among_happenings)

  -- the states of the list keep a constraint, other than `within`, exactly where the trace does
  pub kept_alike : (kind : TrailKind) → (kind ≡ Within → ⊥) → (soon late : Moment → Bool)
      → kept_along kind (λ m. tree_holds trail.first m.facts) (λ m. tree_holds trail.second m.facts) soon (list_trace task (map (λ x. x.snap) ss)) ≡ kept_along kind (λ m. tree_holds trail.first m.facts) (λ m. tree_holds trail.second m.facts) late (trace task plan)
  kept_alike kind w soon late = kept_told told_of kind w soon (λ q. true) (list_trace task (map (λ x. x.snap) ss))
      ∙ ap (kept_along kind (λ q. q.0) (λ q. q.1) (λ q. true)) list_told
      ∙ sym (kept_told told kind w (λ j. true) (λ q. true) (counts p 0 ss))
      ∙ walks_alike (λ j. (told j).0) (λ j. (told j).1) kind (λ j. true) (λ j. true) (counts p 0 ss) (0 ∷ map (λ t. 0 + count_up_to t change_times) (happenings task plan)) (length changers) 0 w (list_walk p 0 ss) time_walks
      ∙ kept_told told kind w (λ j. true) (λ q. true) (0 ∷ map (λ t. 0 + count_up_to t change_times) (happenings task plan))
      ∙ sym (ap (kept_along kind (λ q. q.0) (λ q. q.1) (λ q. true)) trace_told)
      ∙ sym (kept_told told_of kind w late (λ q. true) (trace task plan))
