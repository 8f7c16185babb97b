-- The states of a timed plan are those in which the earlier steps, in the order of any list that agrees with the times, leave it.
use Rattle.std.proofs.Common.{◌≡◌, refl, sym, ap, ap₂, subst, ◌∙◌, ℕ, zero, suc, ◌<◌, ◌≤◌, Bool, true, false, cond, ◌&&◌, List, [], ◌∷◌, ◌++◌, map, length, arith, inl, inr, length-append}
use Rattle.std.proofs.lemmas.List.{length-map}
use Rattle.std.specs.Prelude.{not, slice_index_or, IsPermutation}
use Rattle.std.specs.List.{list_any, filter, AllByRecursion}
use Rattle.std.proofs.Math.Path.{fun_ext}
use Rattle.std.proofs.lemmas.List.Sorted.{IsPermutation-sym}
use Rattle.rational.specs.Rational.{ℚ, zeroℚ, ◌+ℚ◌, ◌*ℚ◌, ◌-ℚ◌, ◌<ℚ◌, ◌≤ℚ◌}
use Rattle.rational.proofs.Order.{lt_le, lt_irrefl, le_antisymm}
use Rattle.rational.proofs.Inequalities.{le_trans, lt_le_trans, le_lt_trans}
use Rattle.rational.proofs.Ring.{law, num, ◌⊕◌, ◌⊗◌, ◌⊖◌, ◌≐◌}
use Rattle.rational.proofs.Field.{ℚ_ring}
use Rattle.task_types.specs.declared.parts.TaskParts.{TaskParts}
use Rattle.task_types.specs.Tests.{◌<?◌, ◌≤?◌, ◌=?◌}
use Rattle.task_types.specs.Sets.{is_in, are_distinct}
use Rattle.task_types.specs.State.{State}
use Rattle.task_types.specs.Plan.{Plan, Step, snap_of, steps, happenings}
use Rattle.task_types.specs.Course.{entries_of, effect_of, amount, assigned, happen, moved, rate, steps_at, time_of, reached, before, after, count_before, initial, passed}
use Rattle.task_types.specs.Clash.{assigned_fluents, increased_fluents}
use Rattle.task_types.specs.Laws.{Ascends}
use Rattle.task_types.proofs.Comparisons.{lt_in, lt_out, le_in, le_out, eq_le, eq_out, eq_in, not_lt_in, not_lt_out, later_out, lt_le_absurd}
use Rattle.task_types.proofs.Everyone.{all_map, all_of_map, filter_same, filter_none}
use Rattle.task_types.proofs.Reordering.{reordered, filter_reordered}
use Rattle.task_types.proofs.Alike.{happen_reordered}
use Rattle.task_types.proofs.Assigning.{one_entry}
use Rattle.task_types.proofs.Instants.{happenings-Ascends}
use Rattle.task_types.proofs.Segment.{Outside, ascending-all}
use Rattle.ordering.specs.Along.{Carried, at_time, at_first, carry_all, carried, Independent, Together, Agrees, AllAgree}
use Rattle.ordering.specs.Laws.{Tells}
use Rattle.ordering.proofs.Crossing.{parted, MayCross}
use Rattle.ordering.proofs.Swapping.{swapped, no_entries, is_in-append-out}
use Rattle.ordering.proofs.Moment.{at_once, AllTogether, none_assigns, some_assigns}
use Rattle.task_types.proofs.Unordered.{every_reordered}

-- ---- lists filtered twice

pub filter_both : {X : Type 0} (p q : X → Bool) (xs : List X) → filter p (filter q xs) ≡ filter (λ x. q x && p x) xs
filter_both p q [] = refl
filter_both p q (x ∷ xs) = go (q x) (p x) refl (filter_both p q xs)
  where
    go : (b c : Bool) → p x ≡ c → filter p (filter q xs) ≡ filter (λ x. q x && p x) xs → filter p (cond b (x ∷ filter q xs) (filter q xs)) ≡ cond (b && c) (x ∷ filter (λ x. q x && p x) xs) (filter (λ x. q x && p x) xs)
    go false c e r = r
    go true c e r = rw (e, r) refl

pub all_kept : {X : Type 0} (P : X → Type 0) (p : X → Bool) (xs : List X) → AllByRecursion P xs → AllByRecursion P (filter p xs)
all_kept P p [] h = tt
all_kept P p (x ∷ xs) h = go (p x) (all_kept P p xs h.1)
  where
    go : (b : Bool) → AllByRecursion P (filter p xs) → AllByRecursion P (cond b (x ∷ filter p xs) (filter p xs))
    go true r = (h.0, r)
    go false r = r

pub all_passing : {X : Type 0} (p : X → Bool) (xs : List X) → AllByRecursion (λ x. p x ≡ true) (filter p xs)
all_passing p [] = tt
all_passing p (x ∷ xs) = go (p x) refl (all_passing p xs)
  where
    go : (b : Bool) → p x ≡ b → AllByRecursion (λ x. p x ≡ true) (filter p xs) → AllByRecursion (λ x. p x ≡ true) (cond b (x ∷ filter p xs) (filter p xs))
    go true e r = (e, r)
    go false e r = r

pub same_where : {X : Type 0} (p q : X → Bool) (xs : List X) → ((x : X) → p x ≡ q x) → filter p xs ≡ filter q xs
same_where p q [] h = refl
same_where p q (x ∷ xs) h = go (p x) (q x) (h x) (same_where p q xs h)
  where
    go : (a b : Bool) → a ≡ b → filter p xs ≡ filter q xs → cond a (x ∷ filter p xs) (filter p xs) ≡ cond b (x ∷ filter q xs) (filter q xs)
    go a b e f = rw (e, f) refl

-- ---- the steps of a list before, at and up to a time

abbrev pub earlier : ℚ → List Step → List Step
earlier t ss = filter (λ s. s.time <? t) ss

abbrev pub no_later : ℚ → List Step → List Step
no_later t ss = filter (λ s. s.time ≤? t) ss

abbrev pub of_time : ℚ → List Step → List Step
of_time t ss = filter (λ s. s.time =? t) ss

up_to_before : (q t : ℚ) → ((q ≤? t) && (q <? t)) ≡ (q <? t)
up_to_before q t = go (q <? t) refl
  where
    go : (b : Bool) → (q <? t) ≡ b → ((q ≤? t) && b) ≡ b
    go true e = ap (λ c. c && true) (le_in q t (lt_le q t (lt_out q t e)))
    go false e = and_false (q ≤? t)
      where
        and_false : (c : Bool) → (c && false) ≡ false
        and_false true = refl
        and_false false = refl

up_to_at : (q t : ℚ) → ((q ≤? t) && not (q <? t)) ≡ (q =? t)
up_to_at q t = go (q =? t) (q ≤? t) (q <? t) refl refl refl
  where
    go : (a b c : Bool) → (q =? t) ≡ a → (q ≤? t) ≡ b → (q <? t) ≡ c → (b && not c) ≡ a
    go true true false e f g = refl
    go false false c e f g = refl
    go false true true e f g = refl
    go true b true e f g = absurd (lt_irrefl t (subst (λ x. x <ℚ t) (eq_out q t e) (lt_out q t g)))
    go true false false e f g = absurd (lt_le_absurd t q (later_out q t f) (eq_le t q (sym (eq_out q t e))))
    go false true false e f g = let c : true ≡ false = sym (eq_in q t (apart (not_lt_out q t g) (le_out q t f))) ∙ e in cc
      where
        apart : t ≤ℚ q → q ≤ℚ t → q ≡ t
        apart h k = le_antisymm q t k h

-- ---- a list that agrees with its times

pub agree_kept : (task : TaskParts) (p : Step → Bool) (ss : List Step) → AllAgree task ss → AllAgree task (filter p ss)
agree_kept task p [] h = tt
agree_kept task p (x ∷ xs) h = go (p x) (agree_kept task p xs h.1)
  where
    go : (b : Bool) → AllAgree task (filter p xs) → AllAgree task (cond b (x ∷ filter p xs) (filter p xs))
    go true r = (all_kept (Agrees task x) p xs h.0, r)
    go false r = r

pub may_cross : (task : TaskParts) (t : ℚ) (ss : List Step) → AllAgree task ss → MayCross task (λ x y. Independent task (snap_of task x.snap) (snap_of task y.snap)) (swapped task) (λ s. s.time <? t) ss
may_cross task t [] h = tt
may_cross task t (x ∷ xs) h = (λ e. all_map (Agrees task x) (λ y. (y.time <? t) ≡ true → Independent task (snap_of task x.snap) (snap_of task y.snap)) xs (λ y a l. a.crossed (lt_le_trans y.time t x.time (lt_out y.time t l) (not_lt_out x.time t e))) h.0, may_cross task t xs h.1)

pairwise : (task : TaskParts) (t : ℚ) (x : Step) → x.time ≡ t → (ys : List Step) → AllByRecursion (Agrees task x) ys → AllByRecursion (λ s. s.time ≡ t) ys → AllByRecursion (λ y. Together (snap_of task x.snap) (snap_of task y.snap)) ys
pairwise task t x e [] a b = tt
pairwise task t x e (y ∷ ys) a b = (a.0.at_once (e ∙ sym b.0), pairwise task t x e ys a.1 b.1)

all_together : (task : TaskParts) (t : ℚ) (ss : List Step) → AllAgree task ss → AllByRecursion (λ s. s.time ≡ t) ss → AllTogether task ss
all_together task t [] h e = tt
all_together task t (x ∷ xs) h e = (pairwise task t x e.0 xs h.0 e.1, all_together task t xs h.1 e.1)

-- at no moment do two steps assign to one fluent
once_at_once : (task : TaskParts) (distinct : (s : Step) → are_distinct (assigned_fluents (snap_of task s.snap)) ≡ true) (u : State) (f : ℕ) (xs : List Step) → AllTogether task xs → length (assigned task xs u f) ≤ 1
once_at_once task distinct u f [] h = omega arith
once_at_once task distinct u f (x ∷ xs) h = go (list_any (λ y. is_in f (assigned_fluents (snap_of task y.snap))) xs) refl (once_at_once task distinct u f xs h.1)
  where
    go : (b : Bool) → list_any (λ y. is_in f (assigned_fluents (snap_of task y.snap))) xs ≡ b → length (assigned task xs u f) ≤ 1 → length (map (amount x u) (entries_of f (effect_of task x).assigns) ++ assigned task xs u f) ≤ 1
    go true e r = subst (λ l. length (map (amount x u) l ++ assigned task xs u f) ≤ 1) (sym (no_entries f (effect_of task x).assigns (is_in-append-out f (assigned_fluents (snap_of task x.snap)) (increased_fluents (snap_of task x.snap)) (some_assigns task u x f xs h.0 e)).0)) r
    go false e r =
        let o : length (entries_of f (effect_of task x).assigns) ≤ 1 = one_entry f (effect_of task x).assigns (distinct x) in
        subst (λ l. length (map (amount x u) (entries_of f (effect_of task x).assigns) ++ l) ≤ 1) (sym (none_assigns task u x f xs e))
        (omega (arith, length-append (map (amount x u) (entries_of f (effect_of task x).assigns)) [], length-map (entries_of f (effect_of task x).assigns) (amount x u), o))

-- ---- happenings and the times between them

-- k + 1 happenings come before t, and no more
abbrev pub IsReachedAt : List ℚ → ℕ → ℚ → Type 0
IsReachedAt ts zero t = (0 < length ts → t ≤ℚ slice_index_or ts 0 zeroℚ)
IsReachedAt ts (suc k) t = (k < length ts) × (slice_index_or ts k zeroℚ <ℚ t) × (suc k < length ts → t ≤ℚ slice_index_or ts (suc k) zeroℚ)

counted : (ts : List ℚ) (t : ℚ) → Ascends ts → IsReachedAt ts (count_before t ts) t
counted [] t a = λ h. absurd (omega arith)
counted (u ∷ us) t a = go (u <? t) refl (count_before t us) (counted us t a.1)
  where
    first : (k : ℕ) → u <ℚ t → IsReachedAt us k t → IsReachedAt (u ∷ us) (suc k) t
    first zero l h = (omega arith, l, λ m. h (omega arith))
    first (suc k) l h = (omega (arith, h.0), h.1, λ m. h.2 (omega arith))

    go : (b : Bool) → (u <? t) ≡ b → (k : ℕ) → IsReachedAt us k t → IsReachedAt (u ∷ us) (cond b (suc k) zero) t
    go true e k h = first k (lt_out u t e) h
    go false e k h = λ _. not_lt_out u t e

-- each of the times is before t or no earlier
all_outside : (ts : List ℚ) (k : ℕ) (t : ℚ) → Ascends ts → IsReachedAt ts (suc k) t → AllByRecursion (Outside (slice_index_or ts k zeroℚ) t) ts
all_outside [] k t a h = tt
all_outside (u ∷ us) zero t a h = (inl (eq_le u u refl), later us a.0 (λ l. h.2 (omega arith)) a.1)
  where
    later : (vs : List ℚ) → AllByRecursion (λ v. u <ℚ v) vs → (0 < length vs → t ≤ℚ slice_index_or vs 0 zeroℚ) → Ascends vs → AllByRecursion (Outside u t) vs
    later [] b f c = tt
    later (v ∷ vs) b f c = (inr (f (omega arith)), all_map (λ w. v <ℚ w) (Outside u t) vs (λ w l. inr (le_trans t v w (f (omega arith)) (lt_le v w l))) c.0)
all_outside (u ∷ us) (suc k) t a h = (inl (lt_le u (slice_index_or us k zeroℚ) (at_place us k a.0 (omega (arith, h.0)))), all_outside us k t a.1 (omega (arith, h.0), h.1, λ l. h.2 (omega arith)))
  where
    at_place : (vs : List ℚ) (k : ℕ) → AllByRecursion (λ v. u <ℚ v) vs → k < length vs → u <ℚ slice_index_or vs k zeroℚ
    at_place [] k b l = absurd (omega arith)
    at_place (v ∷ vs) zero b l = b.0
    at_place (v ∷ vs) (suc k) b l = at_place vs k b.1 (omega arith)

none_before : (ts : List ℚ) (t : ℚ) → Ascends ts → (0 < length ts → t ≤ℚ slice_index_or ts 0 zeroℚ) → AllByRecursion (λ u. t ≤ℚ u) ts
none_before [] t a h = tt
none_before (u ∷ us) t a h = (h (omega arith), all_map (λ v. u <ℚ v) (λ v. t ≤ℚ v) us (λ v l. le_trans t u v (h (omega arith)) (lt_le u v l)) a.0)

-- the happening before is reached before it
reached_earlier : (ts : List ℚ) (k : ℕ) → Ascends ts → k < length ts → IsReachedAt ts k (slice_index_or ts k zeroℚ)
reached_earlier [] k a h = absurd (omega arith)
reached_earlier (u ∷ us) zero a h = λ _. eq_le u u refl
reached_earlier (u ∷ us) (suc k) a h = next k us a.0 (omega arith) (reached_earlier us k a.1 (omega arith))
  where
    next : (k : ℕ) (us : List ℚ) → AllByRecursion (λ v. u <ℚ v) us → k < length us → IsReachedAt us k (slice_index_or us k zeroℚ) → IsReachedAt (u ∷ us) (suc k) (slice_index_or us k zeroℚ)
    next zero [] b h r = absurd (omega arith)
    next zero (v ∷ vs) b h r = (omega arith, b.0, λ l. r (omega arith))
    next (suc k) us b h r = (omega (arith, r.0), r.1, λ l. r.2 (omega arith))

-- ---- the states

at_first_state : (task : TaskParts) (t : ℚ) → initial task ≡ at_time (at_first task) t
at_first_state task t = ap (λ (g : ℕ → ℚ). record { facts = (initial task).facts; fluents = g }) (fun_ext (λ f. law ℚ_ring ((initial task).fluents f ∷ t ∷ []) (λ v t. v ≐ v ⊕ num 0 ⊗ t) refl))

moved_on : (task : TaskParts) (plan : Plan) (m : Carried) (from t : ℚ) → ((f : ℕ) → rate task plan from t f ≡ m.slope f) → moved task plan from t (at_time m from) ≡ at_time m t
unfolding moved
moved_on task plan m from t h = ap (λ (g : ℕ → ℚ). record { facts = m.facts; fluents = g }) (fun_ext (λ f. ap (λ r. (m.level f +ℚ m.slope f *ℚ from) +ℚ r *ℚ (t -ℚ from)) (h f) ∙ law ℚ_ring (m.level f ∷ m.slope f ∷ from ∷ t ∷ []) (λ l s u t. (l ⊕ s ⊗ u) ⊕ s ⊗ (t ⊖ u) ≐ l ⊕ s ⊗ t) refl))

module _ (task : TaskParts) (plan : Plan) (ss : List Step) (tells : Tells task plan ss) where
  happened : (t : ℚ) (u : State) → happen task (steps_at task plan t) u ≡ happen task (of_time t ss) u
  happened t u = sym (happen_reordered task (of_time t ss) (steps_at task plan t) u (IsPermutation-sym (steps_at task plan t) (of_time t ss) (filter_reordered (λ s. s.time =? t) (steps task plan) ss tells.same))
      (λ f. once_at_once task tells.distinct u f (of_time t ss) (all_together task t (of_time t ss) (agree_kept task (λ s. s.time =? t) ss tells.agree) (all_map (λ s. (s.time =? t) ≡ true) (λ s. s.time ≡ t) (of_time t ss) (λ s e. eq_out s.time t e) (all_passing (λ s. s.time =? t) ss)))))

  up_to : (t : ℚ) → carried task (no_later t ss) ≡ carry_all task (carried task (earlier t ss)) (of_time t ss)
  up_to t = parted task (λ x y. Independent task (snap_of task x.snap) (snap_of task y.snap)) (swapped task) (λ s. s.time <? t) (at_first task) (no_later t ss) (may_cross task t (no_later t ss) (agree_kept task (λ s. s.time ≤? t) ss tells.agree))
      ∙ ap₂ (λ (xs ys : List Step). carry_all task (carry_all task (at_first task) xs) ys)
      (filter_both (λ s. s.time <? t) (λ s. s.time ≤? t) ss ∙ same_where (λ s. (s.time ≤? t) && (s.time <? t)) (λ s. s.time <? t) ss (λ s. up_to_before s.time t))
      (filter_both (λ s. not (s.time <? t)) (λ s. s.time ≤? t) ss ∙ same_where (λ s. (s.time ≤? t) && not (s.time <? t)) (λ s. s.time =? t) ss (λ s. up_to_at s.time t))

  -- what happens at a time
  pub left_at : (t : ℚ) → happen task (steps_at task plan t) (at_time (carried task (earlier t ss)) t) ≡ at_time (carried task (no_later t ss)) t
  left_at t = happened t (at_time (carried task (earlier t ss)) t)
      ∙ sym (at_once task t (carried task (earlier t ss)) (of_time t ss) (all_map (λ s. (s.time =? t) ≡ true) (λ s. s.time ≡ t) (of_time t ss) (λ s e. eq_out s.time t e) (all_passing (λ s. s.time =? t) ss)) (all_together task t (of_time t ss) (agree_kept task (λ s. s.time =? t) ss tells.agree) (all_map (λ s. (s.time =? t) ≡ true) (λ s. s.time ≡ t) (of_time t ss) (λ s e. eq_out s.time t e) (all_passing (λ s. s.time =? t) ss))))
      ∙ ap (λ m. at_time m t) (sym (up_to t))

  all_times : (P : ℚ → Type 0) → AllByRecursion P (happenings task plan) → AllByRecursion (λ s. P s.time) (steps task plan)
  unfolding happenings
  all_times P h = all_of_map P (λ s. s.time) (steps task plan) (ascending-all P (map (λ s. s.time) (steps task plan)) h)

  listed : (P : Step → Type 0) → AllByRecursion P (steps task plan) → AllByRecursion P ss
  listed P h = every_reordered P (steps task plan) ss tells.same h

  gap : (from t : ℚ) → from <ℚ t → AllByRecursion (λ s. Outside from t s.time) ss → no_later from ss ≡ earlier t ss
  gap from t l h = filter_same (λ s. s.time ≤? from) (λ s. s.time <? t) ss (all_map (λ s. Outside from t s.time) (λ s. (s.time ≤? from) ≡ (s.time <? t)) ss (λ s o. one s.time o) h)
    where
      one : (x : ℚ) → Outside from t x → (x ≤? from) ≡ (x <? t)
      one x (inl h) = le_in x from h ∙ sym (lt_in x t (le_lt_trans x from t h l))
      one x (inr h) = ap not (lt_in from x (lt_le_trans from t x l h)) ∙ sym (not_lt_in x t h)

  reached-is : (k : ℕ) (t : ℚ) → IsReachedAt (happenings task plan) k t → reached task plan k t ≡ at_time (carried task (earlier t ss)) t
  unfolding reached
  reached-is zero t h = at_first_state task t ∙ ap (λ xs. at_time (carried task xs) t) (sym (filter_none (λ s. s.time <? t) ss (all_map (λ s. t ≤ℚ s.time) (λ s. (s.time <? t) ≡ false) ss (λ s l. not_lt_in s.time t l) (listed (λ s. t ≤ℚ s.time) (all_times (λ x. t ≤ℚ x) (none_before (happenings task plan) t (happenings-Ascends task plan) h))))))
  reached-is (suc k) t h =
      let o : AllByRecursion (λ s. Outside (time_of task plan k) t s.time) (steps task plan) = all_times (Outside (time_of task plan k) t) (all_outside (happenings task plan) k t (happenings-Ascends task plan) h) in
      ap (λ u. moved task plan (time_of task plan k) t (happen task (steps_at task plan (time_of task plan k)) u)) (reached-is k (time_of task plan k) (reached_earlier (happenings task plan) k (happenings-Ascends task plan) h.0))
      ∙ ap (λ u. moved task plan (time_of task plan k) t u) (left_at (time_of task plan k))
      ∙ moved_on task plan (carried task (no_later (time_of task plan k) ss)) (time_of task plan k) t (λ f. tells.rates (time_of task plan k) t f h.1 o)
      ∙ ap (λ xs. at_time (carried task xs) t) (gap (time_of task plan k) t h.1 (listed (λ s. Outside (time_of task plan k) t s.time) o))

  -- the state before an instant is where the earlier steps, in the order of the list, leave it
  pub before-by_time : (t : ℚ) → before task plan t ≡ at_time (carried task (earlier t ss)) t
  unfolding before
  before-by_time t = reached-is (passed task plan t) t (counted (happenings task plan) t (happenings-Ascends task plan))

  -- the state after an instant is where the steps up to it leave it
  pub after-by_time : (t : ℚ) → after task plan t ≡ at_time (carried task (no_later t ss)) t
  unfolding after
  after-by_time t = ap (happen task (steps_at task plan t)) (before-by_time t) ∙ left_at t
