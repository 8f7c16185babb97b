-- The timed plan of a closed ordering has as many plan steps as the ordering, since as many actions end as start.
use Rattle.std.proofs.Common.{◌≡◌, refl, sym, ap, subst, ◌∙◌, ℕ, zero, suc, ◌+◌, ◌*◌, ◌<◌, Bool, true, false, cond, not, ◌||◌, ◌==◌, List, [], ◌∷◌, ◌++◌, length, take, arith, append_assoc, length-append, Option, Some, None}
use Rattle.std.specs.Prelude.{slice_index, option_to_list, is_some, is_none}
use Rattle.std.specs.List.{list_all, filter, flat_map, zip}
use Rattle.std.proofs.lemmas.Bool.Decides.{nat_tests}
use Rattle.std.proofs.lemmas.List.Sums.{fold-append, sum_by-cons}
use native.Mathlib.Decide.{dec_lt}
use Rattle.std.proofs.lemmas.List.Concat.{flat_map-append}
use Rattle.std.proofs.lemmas.List.Folds.{list_any-append}
use Rattle.rational.specs.Rational.{ℚ, ◌-ℚ◌}
use Rattle.basics.proofs.Bools.{and_left, and_right, and_in, or_false_left, or_false_right, not_true}
use Rattle.basics.proofs.Naturals.{same_out}
use Rattle.task_types.specs.declared.actions.Snap.{Snap}
use Rattle.task_types.specs.declared.actions.SnapKind.{SnapKind}
use Rattle.task_types.specs.declared.actions.SnapKind.TheVariants.{Start, End, Instant, Timed}
use Rattle.task_types.specs.declared.parts.TaskParts.{TaskParts}
use Rattle.task_types.specs.declared.plans.PlanLine.{PlanLine}
use Rattle.task_types.specs.Tests.{every}
use Rattle.task_types.specs.Sets.{is_in, are_distinct}
use Rattle.task_types.specs.Plan.{Plan, action_of, snap_of, line_steps, end_step, plan_steps, step_count}
use Rattle.task_types.specs.Touch.{is_timed}
use Rattle.task_types.specs.Order.{Order, IsClosedOrdering, is_built, is_closed, may_follow, running, run_on, plan_step_count}
use Rattle.task_types.specs.Agreement.{end_time, begun, begun_lines, numbered, plan_of}
use Rattle.task_types.specs.WellMade.{IsWellMade}
use Rattle.task_types.proofs.Formed.{IsOwned, timed, started, ended, at_once, snap-owned}

-- ---- lists without repetition

pub other_way : (a b : ℕ) → (a == b) ≡ (b == a)
other_way a b = grind (arith, nat_tests)

-- one more that isn't there
pub distinct_more : (a : ℕ) (xs : List ℕ) → is_in a xs ≡ false → are_distinct xs ≡ true → are_distinct (xs ++ a ∷ []) ≡ true
distinct_more a [] h d = refl
distinct_more a (x ∷ xs) h d = and_in (not (is_in x (xs ++ a ∷ []))) (are_distinct (xs ++ a ∷ [])) (ap not outside) (distinct_more a xs (or_false_right (x == a) (is_in a xs) h) (and_right (not (is_in x xs)) (are_distinct xs) d))
  where
    neither : (b c : Bool) → b ≡ false → c ≡ false → (b || (c || false)) ≡ false
    neither b c e f = rw (e, f) refl

    outside : is_in x (xs ++ a ∷ []) ≡ false
    outside = list_any-append (λ y. y == x) xs (a ∷ []) ∙ neither (is_in x xs) (a == x) (not_true (is_in x xs) (and_left (not (is_in x xs)) (are_distinct xs) d)) (other_way a x ∙ or_false_left (x == a) (is_in a xs) h)

pub chosen_not_in : (x : ℕ) (p : ℕ → Bool) (xs : List ℕ) → is_in x xs ≡ false → is_in x (filter p xs) ≡ false
chosen_not_in x p [] h = refl
chosen_not_in x p (y ∷ ys) h = go (p y) (chosen_not_in x p ys (or_false_right (y == x) (is_in x ys) h))
  where
    go : (b : Bool) → is_in x (filter p ys) ≡ false → is_in x (cond b (y ∷ filter p ys) (filter p ys)) ≡ false
    go true e = rw (or_false_left (y == x) (is_in x ys) h, e) refl
    go false e = e

pub distinct_chosen : (p : ℕ → Bool) (xs : List ℕ) → are_distinct xs ≡ true → are_distinct (filter p xs) ≡ true
distinct_chosen p [] d = refl
distinct_chosen p (x ∷ xs) d = go (p x) (distinct_chosen p xs (and_right (not (is_in x xs)) (are_distinct xs) d))
  where
    go : (b : Bool) → are_distinct (filter p xs) ≡ true → are_distinct (cond b (x ∷ filter p xs) (filter p xs)) ≡ true
    go true e = and_in (not (is_in x (filter p xs))) (are_distinct (filter p xs)) (ap not (chosen_not_in x p xs (not_true (is_in x xs) (and_left (not (is_in x xs)) (are_distinct xs) d)))) e
    go false e = e

abbrev pub without : ℕ → List ℕ → List ℕ
without a xs = filter (λ b. not (is_in b (a ∷ []))) xs

pub nothing_lost : (a : ℕ) (xs : List ℕ) → is_in a xs ≡ false → without a xs ≡ xs
nothing_lost a [] h = refl
nothing_lost a (x ∷ xs) h = rw (other_way a x, or_false_left (x == a) (is_in a xs) h) (ap (λ l. x ∷ l) (nothing_lost a xs (or_false_right (x == a) (is_in a xs) h)))

one_lost : (a : ℕ) (xs : List ℕ) → is_in a xs ≡ true → are_distinct xs ≡ true → length (without a xs) + 1 ≡ length xs
one_lost a [] h d = cc
one_lost a (x ∷ xs) h d = go (x == a) refl h (λ k. one_lost a xs k (and_right (not (is_in x xs)) (are_distinct xs) d))
  where
    go : (b : Bool) → (x == a) ≡ b → (b || is_in a xs) ≡ true → (is_in a xs ≡ true → length (without a xs) + 1 ≡ length xs) → length (cond (not ((a == x) || false)) (x ∷ without a xs) (without a xs)) + 1 ≡ length (x ∷ xs)
    go true e k r = rw (other_way a x, e, nothing_lost a xs (subst (λ y. is_in y xs ≡ false) (same_out x a e) (not_true (is_in x xs) (and_left (not (is_in x xs)) (are_distinct xs) d)))) (omega arith)
    go false e k r = rw (other_way a x, e) (omega (arith, r k))

-- ---- counts of steps by their kinds

abbrev counted : (SnapKind → ℕ) → TaskParts → List ℕ → ℕ
counted w task [] = 0
counted w task (s ∷ ss) = w (snap_of task s).kind + counted w task ss

abbrev starts : SnapKind → ℕ
starts Start = 1
starts End = 0
starts Instant = 0
starts Timed = 0

abbrev ends : SnapKind → ℕ
ends Start = 0
ends End = 1
ends Instant = 0
ends Timed = 0

abbrev instants : SnapKind → ℕ
instants Start = 0
instants End = 0
instants Instant = 1
instants Timed = 0

counted-append : (w : SnapKind → ℕ) (task : TaskParts) (xs ys : List ℕ) → counted w task (xs ++ ys) ≡ counted w task xs + counted w task ys
counted-append w task [] ys = omega arith
counted-append w task (x ∷ xs) ys = omega (arith, counted-append w task xs ys)

-- ---- as many actions run as have started and not ended

record Balanced (task : TaskParts) (done : List ℕ) : Type 0 where
  distinct : are_distinct (running task done) ≡ true
  balance : length (running task done) + counted ends task done ≡ counted starts task done

pub running-more : (task : TaskParts) (done : List ℕ) (s : ℕ) → running task (done ++ s ∷ []) ≡ run_on (snap_of task s).kind (option_to_list (snap_of task s).action) (running task done)
running-more task done s = fold-append _ [] done (s ∷ [])

-- one step more, by its kind, its action and whether that action runs
begins : (task : TaskParts) (done : List ℕ) (s a : ℕ) → (snap_of task s).kind ≡ Start → (snap_of task s).action ≡ Some a → is_in a (running task done) ≡ false → Balanced task done → Balanced task (done ++ s ∷ [])
begins task done s a k e out b = record {
  distinct = subst (λ xs. are_distinct xs ≡ true) (sym now) (distinct_more a (running task done) out b.distinct);
  balance = omega (arith, ap length now, length-append (running task done) (a ∷ []), b.balance, counted-append starts task done (s ∷ []), counted-append ends task done (s ∷ []), ap starts k, ap ends k);
}
  where
    now : running task (done ++ s ∷ []) ≡ running task done ++ a ∷ []
    now = running-more task done s ∙ rw (k, e) refl

finishes : (task : TaskParts) (done : List ℕ) (s a : ℕ) → (snap_of task s).kind ≡ End → (snap_of task s).action ≡ Some a → is_in a (running task done) ≡ true → Balanced task done → Balanced task (done ++ s ∷ [])
finishes task done s a k e inside b = record {
  distinct = subst (λ xs. are_distinct xs ≡ true) (sym now) (distinct_chosen (λ b. not (is_in b (a ∷ []))) (running task done) b.distinct);
  balance = omega (arith, ap length now, one_lost a (running task done) inside b.distinct, b.balance, counted-append starts task done (s ∷ []), counted-append ends task done (s ∷ []), ap starts k, ap ends k);
}
  where
    now : running task (done ++ s ∷ []) ≡ without a (running task done)
    now = running-more task done s ∙ rw (k, e) refl

stays : (task : TaskParts) (done : List ℕ) (s : ℕ) → starts (snap_of task s).kind ≡ 0 → ends (snap_of task s).kind ≡ 0 → running task (done ++ s ∷ []) ≡ running task done → Balanced task done → Balanced task (done ++ s ∷ [])
stays task done s k l now b = record {
  distinct = subst (λ xs. are_distinct xs ≡ true) (sym now) b.distinct;
  balance = omega (arith, ap length now, b.balance, counted-append starts task done (s ∷ []), counted-append ends task done (s ∷ []), k, l);
}

no_other : (b : Bool) → not (b || false) ≡ true → b ≡ false
no_other true e = cc
no_other false e = refl

one_other : (b : Bool) → (b || false) ≡ true → b ≡ true
one_other true e = refl
one_other false e = cc

balanced_more : (task : TaskParts) (done : List ℕ) (s : ℕ) → IsOwned task (snap_of task s) → may_follow task done s (snap_of task s).kind ≡ true → Balanced task done → Balanced task (done ++ s ∷ [])
balanced_more task done s (timed k) h b = stays task done s (ap starts k) (ap ends k) (running-more task done s ∙ rw k refl) b
balanced_more task done s (started a k e l d) h b = begins task done s a k e (no_other (is_in a (running task done)) (rw (k, e) at h)) b
balanced_more task done s (ended a k e l d) h b = finishes task done s a k e (one_other (is_in a (running task done)) (rw (k, e) at h)) b
balanced_more task done s (at_once a k e l d) h b = stays task done s (ap starts k) (ap ends k) (running-more task done s ∙ rw k refl) b

-- ---- along a built list

every_out : (n : ℕ) (p : ℕ → Bool) (k : ℕ) → every n p ≡ true → k < n → p k ≡ true
every_out zero p k h l = absurd (omega arith)
every_out (suc n) p k h l = elim (dec_lt k n) [ yes b ↦ every_out n p k (and_left (every n p) (p n) h) b | no b ↦ subst (λ j. p j ≡ true) (same b) (and_right (every n p) (p n) h) ]
  where
    same : (k < n → ⊥) → n ≡ k
    same b = omega arith

pub take_done : (xs ys : List ℕ) → take (length xs) (xs ++ ys) ≡ xs
take_done [] ys = refl
take_done (x ∷ xs) ys = ap (λ l. x ∷ l) (take_done xs ys)

pub at_done : (xs ys : List ℕ) (s : ℕ) → slice_index (xs ++ s ∷ ys) (length xs) ≡ s
at_done [] ys s = refl
at_done (x ∷ xs) ys s = at_done xs ys s

balanced : (task : TaskParts) (steps done rest : List ℕ) → ((s : ℕ) → IsOwned task (snap_of task s))
    → every (length steps) (λ k. may_follow task (take k steps) (slice_index steps k) (snap_of task (slice_index steps k)).kind) ≡ true
    → steps ≡ done ++ rest → Balanced task done → Balanced task steps
balanced task steps done [] own h e b = subst (Balanced task) (sym (e ∙ append_none done)) b
  where
    append_none : (xs : List ℕ) → xs ++ [] ≡ xs
    append_none [] = refl
    append_none (x ∷ xs) = ap (λ l. x ∷ l) (append_none xs)
balanced task steps done (s ∷ rest) own h e b = balanced task steps (done ++ s ∷ []) rest own h (e ∙ sym (append_assoc done (s ∷ []) rest)) (balanced_more task done s (own s) here b)
  where
    taken : take (length done) steps ≡ done
    taken = ap (take (length done)) e ∙ take_done done (s ∷ rest)

    there : slice_index steps (length done) ≡ s
    there = ap (λ xs. slice_index xs (length done)) e ∙ at_done done rest s

    inside : length done < length steps
    inside = omega (arith, ap length e, length-append done (s ∷ rest))

    here : may_follow task done s (snap_of task s).kind ≡ true
    here = subst (λ xs. may_follow task xs s (snap_of task s).kind ≡ true) taken
        (subst (λ x. may_follow task (take (length done) steps) x (snap_of task x).kind ≡ true) there
        (every_out (length steps) (λ k. may_follow task (take k steps) (slice_index steps k) (snap_of task (slice_index steps k)).kind) (length done) h inside))

pub none_run : (xs : List ℕ) → list_all (λ a. false) xs ≡ true → xs ≡ []
none_run [] h = refl
none_run (x ∷ xs) h = cc

-- as many ends as starts
pub ends-starts : (task : TaskParts) (o : Order) → IsWellMade task → IsClosedOrdering task o → counted ends task o.steps ≡ counted starts task o.steps
unfolding is_built is_closed
ends-starts task o w c =
    let b = balanced task o.steps [] o.steps (snap-owned task w) (and_left _ _ (and_left _ _ c.built)) refl (record { distinct = refl; balance = refl }) in
    let r = none_run (running task o.steps) (and_left _ _ c.closed) in
    omega (arith, b.balance, ap length r)

-- ---- the plan steps of an ordering and of its timed plan

ordering_steps : (task : TaskParts) (ss : List ℕ) → plan_step_count task ss ≡ counted starts task ss + counted ends task ss + counted instants task ss
ordering_steps task [] = refl
ordering_steps task (s ∷ ss) = sum_by-cons (λ s. cond (not (is_timed (snap_of task s).kind)) 1 0) s ss ∙ go (snap_of task s).kind (ordering_steps task ss)
  where
    go : (k : SnapKind) → plan_step_count task ss ≡ counted starts task ss + counted ends task ss + counted instants task ss
        → cond (not (is_timed k)) 1 0 + plan_step_count task ss ≡ (starts k + counted starts task ss) + (ends k + counted ends task ss) + (instants k + counted instants task ss)
    go Start e = omega (arith, e)
    go End e = omega (arith, e)
    go Instant e = omega (arith, e)
    go Timed e = omega (arith, e)

pub unnumbered_steps : (task : TaskParts) (n : ℕ) (ls : Plan) → plan_steps task (numbered n ls) ≡ plan_steps task ls
unnumbered_steps task n [] = refl
unnumbered_steps task n (l ∷ ls) = ap (λ xs. line_steps task l ++ xs) (unnumbered_steps task (n + 1) ls)

two_steps : (l : PlanLine) (o : Option ℕ) → is_some o ≡ true → length (end_step l o ++ []) ≡ 1
two_steps l None e = cc
two_steps l (Some s) e = refl

one_step : (l : PlanLine) (o : Option ℕ) → is_none o ≡ true → length (end_step l o ++ []) ≡ 0
one_step l None e = refl
one_step l (Some s) e = cc

begun_steps : (task : TaskParts) (s : Snap) (t : ℚ) (later : List (ℕ × ℚ)) → IsOwned task s
    → length (plan_steps task (flat_map (λ a. begun task s.kind a t later) (option_to_list s.action))) ≡ 2 * starts s.kind + instants s.kind
begun_steps task s t later (timed k) = rw k (none (option_to_list s.action))
  where
    none : (xs : List ℕ) → length (plan_steps task (flat_map (λ a. []) xs)) ≡ 0
    none [] = refl
    none (x ∷ xs) = none xs
begun_steps task s t later (started a k e l d) = rw (k, e) (ap suc (two_steps (record { action = a; at = t; duration = Some (end_time task a later -ℚ t); line = 0 }) (action_of task a).end d))
begun_steps task s t later (ended a k e l d) = rw (k, e) refl
begun_steps task s t later (at_once a k e l d) = rw (k, e) (ap suc (one_step (record { action = a; at = t; duration = None; line = 0 }) (action_of task a).end d))

plan_steps_begun : (task : TaskParts) → ((s : ℕ) → IsOwned task (snap_of task s)) → (ss : List ℕ) (ts : List ℚ) → length ts ≡ length ss
    → length (plan_steps task (begun_lines task (zip ss ts))) ≡ 2 * counted starts task ss + counted instants task ss
plan_steps_begun task own [] ts e = refl
plan_steps_begun task own (s ∷ ss) [] e = absurd (omega arith)
plan_steps_begun task own (s ∷ ss) (t ∷ ts) e = omega (
  arith,
  ap length (flat_map-append (line_steps task) (flat_map (λ a. begun task (snap_of task s).kind a t (zip ss ts)) (option_to_list (snap_of task s).action)) (begun_lines task (zip ss ts))),
  length-append (plan_steps task (flat_map (λ a. begun task (snap_of task s).kind a t (zip ss ts)) (option_to_list (snap_of task s).action))) (plan_steps task (begun_lines task (zip ss ts))),
  begun_steps task (snap_of task s) t (zip ss ts) (own s),
  plan_steps_begun task own ss ts (omega arith),
)

pub step_count-plan_of : (task : TaskParts) (o : Order) (times : List ℚ) → IsWellMade task → IsClosedOrdering task o → length times ≡ length o.steps
    → step_count task (plan_of task o times) ≡ plan_step_count task o.steps
unfolding plan_of
step_count-plan_of task o times w c e = ap length (unnumbered_steps task 1 (begun_lines task (zip o.steps times)))
    ∙ plan_steps_begun task (snap-owned task w) o.steps times e
    ∙ sym (ordering_steps task o.steps ∙ same (counted starts task o.steps) (counted ends task o.steps) (counted instants task o.steps) (ends-starts task o w c))
  where
    same : (a b c : ℕ) → b ≡ a → a + b + c ≡ 2 * a + c
    same a b c e = omega arith
