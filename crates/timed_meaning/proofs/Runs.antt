-- Sorted steps go happening by happening.
use Rattle.std.proofs.Common.{◌≡◌, refl, sym, ap, subst, ◌∙◌, suc, ◌+◌, Bool, true, false, cond, not, ◌&&◌, if◌then◌else◌, List, [], ◌∷◌, arith, ⊎_elim}
use Rattle.std.specs.Prelude.{slice_index_or}
use Rattle.std.specs.List.{AllByRecursion, filter}
use Rattle.std.specs.Ordering.{is_lt}
use Rattle.std.specs.declared.cmp.Ordering.{Ordering}
use Rattle.std.specs.declared.cmp.Ordering.TheVariants.{Less, Equal, Greater}
use Rattle.std.specs.List.Sorted.{IsSortedBy, ties}
use Rattle.rational.specs.Rational.{ℚ, ◌≤ℚ◌, ◌<ℚ◌, cmp_ℚ}
use Rattle.rational.proofs.Inequalities.{le_trans, lt_le_trans, le_lt_or_eq}
use Rattle.task_types.specs.Tests.{◌=?◌, ◌<?◌, is_less}
use Rattle.task_types.specs.Plan.{Step}
use Rattle.task_types.proofs.Comparisons.{lt_out, eq_le, not_lt_out, eq_out, eq_in, lt_le_absurd}
use Rattle.task_types.proofs.Everyone.{filter_same, all_tabulate, filter_none}
use Rattle.timed_meaning.specs.declared.steps.OwnedStep.{OwnedStep}
use Rattle.timed_meaning.specs.Owned.{steps_of}
use Rattle.timed_meaning.specs.Sorts.{NeverFall, at_time, run, after_run, RunsAreHappenings}

-- a time is itself
pub same : (t : ℚ) → (t =? t) ≡ true
same t = eq_in t t refl

less_same : (o : Ordering) → is_lt o ≡ is_less o
less_same Less = refl
less_same Equal = refl
less_same Greater = refl

pub lt_bool : (q r : ℚ) → is_lt (cmp_ℚ q r) ≡ (q <? r)
lt_bool q r = less_same (cmp_ℚ q r)

-- neither is below the other exactly where they are equal
pub tie_is : (t q : ℚ) → (not (is_lt (cmp_ℚ t q)) && not (is_lt (cmp_ℚ q t))) ≡ (q =? t)
tie_is t q = rw (lt_bool t q, lt_bool q t) (go (t <? q) (q <? t) (q =? t) refl refl refl)
  where
    go : (a b c : Bool) → (t <? q) ≡ a → (q <? t) ≡ b → (q =? t) ≡ c → (not a && not b) ≡ c
    go true b true e f g = absurd (lt_le_absurd t q (lt_out t q e) (eq_le t q (sym (eq_out q t g))))
    go true b false e f g = refl
    go false true true e f g = absurd (lt_le_absurd q t (lt_out q t f) (eq_le q t (eq_out q t g)))
    go false true false e f g = refl
    go false false true e f g = refl
    go false false false e f g = sym (eq_in q t (same (not_lt_out t q e) (not_lt_out q t f))) ∙ g
      where
        same : q ≤ℚ t → t ≤ℚ q → q ≡ t
        same h k = ⊎_elim (λ l. absurd (lt_le_absurd q t l k)) (λ p. p) (le_lt_or_eq q t h)

-- steps at a time, and their owners
at_time-owned : (t : ℚ) (xs : List OwnedStep) → at_time t (steps_of xs) ≡ steps_of (filter (λ s. s.step.time =? t) xs)
at_time-owned t [] = refl
at_time-owned t (x ∷ xs) = go (x.step.time =? t) (at_time-owned t xs)
  where
    go : (b : Bool) → at_time t (steps_of xs) ≡ steps_of (filter (λ s. s.step.time =? t) xs) → cond b (x.step ∷ at_time t (steps_of xs)) (at_time t (steps_of xs)) ≡ steps_of (cond b (x ∷ filter (λ s. s.step.time =? t) xs) (filter (λ s. s.step.time =? t) xs))
    go true r = ap (λ l. x.step ∷ l) r
    go false r = r

abbrev pub tie : ℚ → OwnedStep
tie t = record { step = record { time = t; snap = 0; duration = t }; owner = 0 }

pub stable-at : (t : ℚ) (xs ys : List OwnedStep) → filter (ties (λ (x y : OwnedStep). is_lt (cmp_ℚ x.step.time y.step.time)) (tie t)) ys ≡ filter (ties (λ (x y : OwnedStep). is_lt (cmp_ℚ x.step.time y.step.time)) (tie t)) xs → at_time t (steps_of ys) ≡ at_time t (steps_of xs)
stable-at t xs ys e = at_time-owned t ys ∙ ap steps_of (sym (same ys) ∙ e ∙ same xs) ∙ sym (at_time-owned t xs)
  where
    same : (zs : List OwnedStep) → filter (ties (λ (x y : OwnedStep). is_lt (cmp_ℚ x.step.time y.step.time)) (tie t)) zs ≡ filter (λ s. s.step.time =? t) zs
    same zs = filter_same (ties (λ (x y : OwnedStep). is_lt (cmp_ℚ x.step.time y.step.time)) (tie t)) (λ s. s.step.time =? t) zs (all_tabulate (λ s. ties (λ (x y : OwnedStep). is_lt (cmp_ℚ x.step.time y.step.time)) (tie t) s ≡ (s.step.time =? t)) zs (λ s. tie_is t s.step.time))

-- sorted by neighbours is sorted
pub sorted-never_fall : (xs : List OwnedStep) → IsSortedBy (λ (x y : OwnedStep). is_lt (cmp_ℚ x.step.time y.step.time)) xs → NeverFall (steps_of xs)
sorted-never_fall [] h = tt
sorted-never_fall (x ∷ []) h = (tt, tt)
sorted-never_fall (x ∷ y ∷ ys) h = go (sorted-never_fall (y ∷ ys) (λ k d l m. subst (λ i. is_lt (cmp_ℚ (slice_index_or (x ∷ y ∷ ys) i d).step.time (slice_index_or (y ∷ ys) k d).step.time) ≡ false) (let e : suc k + 1 ≡ suc (k + 1) = omega arith in e) (h (suc k) d (omega arith) (omega (arith, m)))))
  where
    first : x.step.time ≤ℚ y.step.time
    first = not_lt_out y.step.time x.step.time (sym (lt_bool y.step.time x.step.time) ∙ h 0 x (omega arith) (omega arith))

    all_after : (zs : List Step) → AllByRecursion (λ z. y.step.time ≤ℚ z.time) zs → AllByRecursion (λ z. x.step.time ≤ℚ z.time) zs
    all_after [] a = tt
    all_after (z ∷ zs) a = (le_trans x.step.time y.step.time z.time first a.0, all_after zs a.1)

    go : NeverFall (steps_of (y ∷ ys)) → NeverFall (steps_of (x ∷ y ∷ ys))
    go r = ((first, all_after (steps_of ys) r.0), r)

-- ---- runs

none_after : (t : ℚ) (ys : List Step) → AllByRecursion (λ y. t <ℚ y.time) ys → at_time t ys ≡ []
none_after t ys h = filter_none (λ s. s.time =? t) ys (each ys h)
  where
    each : (zs : List Step) → AllByRecursion (λ y. t <ℚ y.time) zs → AllByRecursion (λ s. (s.time =? t) ≡ false) zs
    each [] a = tt
    each (z ∷ zs) a = (differ (z.time =? t) refl, each zs a.1)
      where
        differ : (b : Bool) → (z.time =? t) ≡ b → b ≡ false
        differ true e = absurd (lt_le_absurd t z.time a.0 (eq_le t z.time (sym (eq_out z.time t e))))
        differ false e = refl

run-is : (t : ℚ) (xs : List Step) → NeverFall xs → AllByRecursion (λ y. t ≤ℚ y.time) xs → run t xs ≡ at_time t xs
run-is t [] n h = refl
run-is t (x ∷ xs) n h = go (x.time =? t) refl (run-is t xs n.1 h.1)
  where
    beyond : (ys : List Step) → t <ℚ x.time → AllByRecursion (λ y. x.time ≤ℚ y.time) ys → AllByRecursion (λ y. t <ℚ y.time) ys
    beyond [] l a = tt
    beyond (y ∷ ys) l a = (lt_le_trans t x.time y.time l a.0, beyond ys l a.1)

    above : (x.time =? t) ≡ false → t <ℚ x.time
    above e = ⊎_elim (λ l. l) (λ (q : t ≡ x.time). let f : false ≡ true = sym e ∙ eq_in x.time t (sym q) in cc) (le_lt_or_eq t x.time h.0)

    go : (b : Bool) → (x.time =? t) ≡ b → run t xs ≡ at_time t xs → (if b then (x ∷ run t xs) else []) ≡ cond b (x ∷ at_time t xs) (at_time t xs)
    go true e r = ap (λ l. x ∷ l) r
    go false e r = sym (none_after t xs (beyond xs (above e) n.0))

rest-is : (t u : ℚ) (xs : List Step) → (u =? t) ≡ false → at_time u (after_run t xs) ≡ at_time u xs
rest-is t u [] h = refl
rest-is t u (x ∷ xs) h = go (x.time =? t) refl (rest-is t u xs h)
  where
    other : x.time ≡ t → (b : Bool) → (x.time =? u) ≡ b → b ≡ false
    other e true f = let c : true ≡ false = sym (eq_in u t (sym (eq_out x.time u f) ∙ e)) ∙ h in cc
    other e false f = refl

    go : (b : Bool) → (x.time =? t) ≡ b → at_time u (after_run t xs) ≡ at_time u xs → at_time u (if b then after_run t xs else (x ∷ xs)) ≡ at_time u (x ∷ xs)
    go true e r = r ∙ sym (ap (λ b. cond b (x ∷ at_time u xs) (at_time u xs)) (other (eq_out x.time t e) (x.time =? u) refl))
    go false e r = refl

pub runs : RunsAreHappenings
runs = record {
  first = λ x xs n. run-is x.time (x ∷ xs) n (eq_le x.time x.time refl, n.0);
  rest = λ x xs t n h. rest-is x.time t (x ∷ xs) h;
}
