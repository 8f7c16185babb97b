-- The distinct times of sorted steps, run by run; and what is left of a plan's steps at a happening.
use Rattle.std.proofs.Common.{◌≡◌, refl, sym, ap, subst, ◌∙◌, ℕ, zero, suc, ◌+◌, ◌<◌, ◌≤◌, Bool, true, false, cond, if◌then◌else◌, List, [], ◌∷◌, length, map, drop, take, ◌++◌, append_assoc, arith, inl, inr, ⊎_elim}
use Rattle.std.specs.Prelude.{slice_index_or, ◌⊎◌}
use Rattle.std.specs.List.{AllByRecursion}
use Rattle.std.proofs.lemmas.List.{drop_more}
use Rattle.std.specs.declared.cmp.Ordering.{Ordering}
use Rattle.std.specs.declared.cmp.Ordering.TheVariants.{Less, Equal, Greater}
use Rattle.rational.specs.Rational.{ℚ, zeroℚ, ◌≤ℚ◌, ◌<ℚ◌, cmp_ℚ}
use Rattle.rational.proofs.Inequalities.{le_lt_or_eq}
use Rattle.rational.proofs.Comparisons.{lt_is_less}
use Rattle.rational.proofs.Order.{lt_irrefl}
use Rattle.task_types.specs.Laws.{Ascends}
use Rattle.task_types.specs.declared.parts.TaskParts.{TaskParts}
use Rattle.task_types.specs.Tests.{◌=?◌, is_equal}
use Rattle.task_types.specs.Plan.{Plan, Step, ascending, in_place, beside, steps, happenings}
use Rattle.task_types.specs.Course.{steps_at, time_of, count}
use Rattle.task_types.proofs.Comparisons.{eq_in, eq_out}
use Rattle.task_types.proofs.Instants.{ascending-Ascends}
use Rattle.task_types.proofs.Happenings.{Among, ascending-among, among-ascending, one_ascending}
use Rattle.task_types.proofs.Everyone.{all_both, all_tabulate}
use Rattle.timed_meaning.specs.Agendas.{Left, run_end}
use Rattle.timed_meaning.specs.Sorts.{NeverFall, at_time, run, after_run, times, AreSorted}
use Rattle.timed_meaning.proofs.Runs.{same, runs}

-- ---- the first run

placed-same : (t : ℚ) (us : List ℚ) → in_place t (t ∷ us) ≡ t ∷ us
placed-same t us = go (cmp_ℚ t t) (eq_in t t refl)
  where
    go : (o : Ordering) → is_equal o ≡ true → beside o t t us (in_place t us) ≡ t ∷ us
    go Less e = let c : false ≡ true = e in cc
    go Equal e = refl
    go Greater e = let c : false ≡ true = e in cc

placed-below : (t u : ℚ) (us : List ℚ) → t <ℚ u → in_place t (u ∷ us) ≡ t ∷ u ∷ us
placed-below t u us h = ap (λ o. beside o t u us (in_place t us)) (lt_is_less t u h)

above : (t u : ℚ) → t ≤ℚ u → (u =? t) ≡ false → t <ℚ u
above t u h e = ⊎_elim (λ l. l) (λ (q : t ≡ u). let f : false ≡ true = sym e ∙ eq_in u t (sym q) in cc) (le_lt_or_eq t u h)

times-from : (t : ℚ) (xs : List Step) → NeverFall xs → AllByRecursion (λ y. t ≤ℚ y.time) xs → in_place t (times xs) ≡ t ∷ times (after_run t xs)
times-from t [] n h = refl
times-from t (x ∷ xs) n h = go (x.time =? t) refl (times-from t xs n.1 h.1) (times-from x.time xs n.1 n.0)
  where
    go : (b : Bool) → (x.time =? t) ≡ b → in_place t (times xs) ≡ t ∷ times (after_run t xs) → in_place x.time (times xs) ≡ x.time ∷ times (after_run x.time xs)
        → in_place t (times (x ∷ xs)) ≡ t ∷ times (if b then after_run t xs else (x ∷ xs))
    go true e r s = ap (λ q. in_place t (in_place q (times xs))) (eq_out x.time t e) ∙ ap (in_place t) r ∙ placed-same t (times (after_run t xs))
    go false e r s = ap (in_place t) s ∙ placed-below t x.time (times (after_run x.time xs)) (above t x.time h.0 e) ∙ ap (λ l. t ∷ l) (sym s)

-- the run of the first step's time begins with it
pub after-first : (x : Step) (xs : List Step) → after_run x.time (x ∷ xs) ≡ after_run x.time xs
after-first x xs = ap (λ b. if b then after_run x.time xs else (x ∷ xs)) (same x.time)

pub run-first : (x : Step) (xs : List Step) → run x.time (x ∷ xs) ≡ x ∷ run x.time xs
run-first x xs = ap (λ b. if b then (x ∷ run x.time xs) else []) (same x.time)

pub times-run : (x : Step) (xs : List Step) → NeverFall (x ∷ xs) → times (x ∷ xs) ≡ x.time ∷ times (after_run x.time (x ∷ xs))
times-run x xs n = times-from x.time xs n.1 n.0 ∙ ap (λ l. x.time ∷ times l) (sym (after-first x xs))

pub falls-after : (t : ℚ) (xs : List Step) → NeverFall xs → NeverFall (after_run t xs)
falls-after t [] n = tt
falls-after t (x ∷ xs) n = go (x.time =? t) (falls-after t xs n.1)
  where
    go : (b : Bool) → NeverFall (after_run t xs) → NeverFall (if b then after_run t xs else (x ∷ xs))
    go true r = r
    go false r = n

pub drop-run : (t : ℚ) (xs : List Step) → drop (length (run t xs)) xs ≡ after_run t xs
drop-run t [] = refl
drop-run t (x ∷ xs) = go (x.time =? t) (drop-run t xs)
  where
    go : (b : Bool) → drop (length (run t xs)) xs ≡ after_run t xs → drop (length (if b then (x ∷ run t xs) else [])) (x ∷ xs) ≡ (if b then after_run t xs else (x ∷ xs))
    go true r = r
    go false r = refl

pub take-run : (t : ℚ) (xs : List Step) → take (length (run t xs)) xs ≡ run t xs
take-run t [] = refl
take-run t (x ∷ xs) = go (x.time =? t) (take-run t xs)
  where
    go : (b : Bool) → take (length (run t xs)) xs ≡ run t xs → take (length (if b then (x ∷ run t xs) else [])) (x ∷ xs) ≡ (if b then (x ∷ run t xs) else [])
    go true r = ap (λ l. x ∷ l) r
    go false r = refl

pub length-run : (t : ℚ) (xs : List Step) → length (run t xs) ≤ length xs
length-run t [] = omega arith
length-run t (x ∷ xs) = go (x.time =? t) (length-run t xs)
  where
    go : (b : Bool) → length (run t xs) ≤ length xs → length (if b then (x ∷ run t xs) else []) ≤ suc (length xs)
    go true r = omega (arith, r)
    go false r = omega arith

-- a run, looked at from place i on
module _ (t : ℚ) (xs : List Step) (i : ℕ) (x : Step) (h : i < length xs) (at_i : x ≡ slice_index_or xs i x) where
  onward : drop i xs ≡ x ∷ drop (i + 1) xs
  onward = drop_more xs i x h ∙ ap (λ y. y ∷ drop (i + 1) xs) (sym at_i)

  pub run-stops : (x.time =? t) ≡ false → length (run t (drop i xs)) + i ≡ length (run t xs) → i ≡ length (run t xs)
  run-stops e k = let none : length (run t (drop i xs)) ≡ 0 = ap (λ l. length (run t l)) onward ∙ ap (λ b. length (if b then (x ∷ run t (drop (i + 1) xs)) else [])) e in omega (arith, none, k)

  pub run-goes : (x.time =? t) ≡ true → length (run t (drop i xs)) + i ≡ length (run t xs) → length (run t (drop (i + 1) xs)) + (i + 1) ≡ length (run t xs)
  run-goes e k = let one : length (run t (drop i xs)) ≡ suc (length (run t (drop (i + 1) xs))) = ap (λ l. length (run t l)) onward ∙ ap (λ b. length (if b then (x ∷ run t (drop (i + 1) xs)) else [])) e in omega (arith, one, k)

-- the time of the first run is noted, and the rest is left
pub times-next : (rest new : List Step) (x : Step) (xs : List Step) (t : ℚ) (out noted all : List ℚ) → rest ≡ x ∷ xs → t ≡ x.time → new ≡ after_run t rest → noted ≡ out ++ t ∷ []
    → NeverFall rest × (out ++ times rest ≡ all) → NeverFall new × (noted ++ times new ≡ all)
times-next rest new x xs t out noted all r e n p h = (
  subst NeverFall (sym new_is) (falls-after x.time (x ∷ xs) falls),
  ap (λ l. l ++ times new) p ∙ append_assoc out (t ∷ []) (times new) ∙ ap (λ q. out ++ (q ∷ times new)) e ∙ ap (λ l. out ++ (x.time ∷ times l)) new_is
      ∙ ap (λ l. out ++ l) (sym (times-run x xs falls)) ∙ ap (λ l. out ++ times l) (sym r) ∙ h.1,
)
  where
    new_is : new ≡ after_run x.time (x ∷ xs)
    new_is = n ∙ ap (λ q. after_run q rest) e ∙ ap (after_run x.time) r

    falls : NeverFall (x ∷ xs)
    falls = subst NeverFall r h.0

length-after : (t : ℚ) (xs : List Step) → length (after_run t xs) ≤ length xs
length-after t [] = omega arith
length-after t (x ∷ xs) = go (x.time =? t) (length-after t xs)
  where
    go : (b : Bool) → length (after_run t xs) ≤ length xs → length (if b then after_run t xs else (x ∷ xs)) ≤ suc (length xs)
    go true r = omega (arith, r)
    go false r = omega arith

pub rest-shorter : (rest new : List Step) (x : Step) (xs : List Step) (t : ℚ) → rest ≡ x ∷ xs → t ≡ x.time → new ≡ after_run t rest → length new < length rest
rest-shorter rest new x xs t r e n =
    let a : length new ≡ length (after_run x.time xs) = ap length (n ∙ ap (λ q. after_run q rest) e ∙ ap (after_run x.time) r ∙ after-first x xs) in
    let b : length rest ≡ suc (length xs) = ap length r in
    let c : length (after_run x.time xs) ≤ length xs = length-after x.time xs in
    omega (arith, a, b, c)

-- ---- sorted steps have the times of the steps

there : (t : ℚ) (xs : List Step) → Among t (map (λ s. s.time) xs) → at_time t xs ≡ [] → ⊥
there t [] h e = h
there t (x ∷ xs) h e = go (x.time =? t) refl e (there t xs)
  where
    go : (b : Bool) → (x.time =? t) ≡ b → cond b (x ∷ at_time t xs) (at_time t xs) ≡ [] → (Among t (map (λ s. s.time) xs) → at_time t xs ≡ [] → ⊥) → ⊥
    go true q e r = cc
    go false q e r = ⊎_elim (λ (s : t ≡ x.time). let f : false ≡ true = sym q ∙ eq_in x.time t (sym s) in absurd (cc)) (λ k. r k e) h

among_there : (t : ℚ) (xs : List Step) → (at_time t xs ≡ [] → ⊥) → Among t (map (λ s. s.time) xs)
among_there t [] h = h refl
among_there t (x ∷ xs) h = go (x.time =? t) refl h (among_there t xs)
  where
    go : (b : Bool) → (x.time =? t) ≡ b → (cond b (x ∷ at_time t xs) (at_time t xs) ≡ [] → ⊥) → ((at_time t xs ≡ [] → ⊥) → Among t (map (λ s. s.time) xs)) → (t ≡ x.time) ⊎ Among t (map (λ s. s.time) xs)
    go true q h r = inl (sym (eq_out x.time t q))
    go false q h r = inr (r h)

moved_over : (xs ys : List Step) → ((t : ℚ) → at_time t ys ≡ at_time t xs) → (t : ℚ) → Among t (ascending (map (λ s. s.time) xs)) → Among t (ascending (map (λ s. s.time) ys))
moved_over xs ys s t h = ascending-among t (map (λ s. s.time) ys) (among_there t ys (λ e. there t xs (among-ascending t (map (λ s. s.time) xs) h) (sym (s t) ∙ e)))

pub times-sorted : (steps sorted : List Step) → AreSorted steps sorted → times sorted ≡ times steps
times-sorted steps sorted a = one_ascending (times sorted) (times steps) (ascending-Ascends (map (λ s. s.time) sorted)) (ascending-Ascends (map (λ s. s.time) steps))
    (moved_over sorted steps (λ t. sym (a.stable t))) (moved_over steps sorted a.stable)

pub happenings-sorted : (task : TaskParts) (plan : Plan) (sorted : List Step) → AreSorted (steps task plan) sorted → times sorted ≡ happenings task plan
unfolding happenings
happenings-sorted task plan sorted a = times-sorted (steps task plan) sorted a

-- ---- what is left at happening k

pub Left-begin : (task : TaskParts) (plan : Plan) (sorted : List Step) → AreSorted (steps task plan) sorted → Left task plan 0 sorted
Left-begin task plan sorted a = record { falls = a.falls; times_left = happenings-sorted task plan sorted a; steps_left = all_tabulate (λ t. at_time t sorted ≡ steps_at task plan t) (times sorted) a.stable }

-- the first of what is left of a list after some
drop-head : (ts : List ℚ) (k : ℕ) (u : ℚ) (us : List ℚ) → u ∷ us ≡ drop k ts → (k < length ts) × (slice_index_or ts k zeroℚ ≡ u) × (drop (suc k) ts ≡ us)
drop-head [] zero u us e = cc
drop-head [] (suc k) u us e = cc
drop-head (t ∷ ts) zero u us e = (omega arith, (let h : u ≡ t = ap first e in sym h), (let r : us ≡ ts = ap rest e in sym r))
  where
    first : List ℚ → ℚ
    first [] = zeroℚ
    first (x ∷ xs) = x

    rest : List ℚ → List ℚ
    rest [] = []
    rest (x ∷ xs) = xs
drop-head (t ∷ ts) (suc k) u us e = let r = drop-head ts k u us e in (omega (arith, r.0), r.1, r.2)

module _ (task : TaskParts) (plan : Plan) (k : ℕ) (x : Step) (xs : List Step) (l : Left task plan k (x ∷ xs)) where
  split : x.time ∷ times (after_run x.time (x ∷ xs)) ≡ drop k (happenings task plan)
  split = sym (times-run x xs l.falls) ∙ l.times_left

  pub left-in : k < count task plan
  left-in = (drop-head (happenings task plan) k x.time (times (after_run x.time (x ∷ xs))) split).0

  pub left-time : time_of task plan k ≡ x.time
  left-time = (drop-head (happenings task plan) k x.time (times (after_run x.time (x ∷ xs))) split).1

  both : AllByRecursion (λ t. at_time t (x ∷ xs) ≡ steps_at task plan t) (x.time ∷ times (after_run x.time (x ∷ xs)))
  both = subst (λ ts. AllByRecursion (λ t. at_time t (x ∷ xs) ≡ steps_at task plan t) ts) (times-run x xs l.falls) l.steps_left

  pub left-here : run x.time (x ∷ xs) ≡ steps_at task plan (time_of task plan k)
  left-here = runs.first x xs l.falls ∙ both.0 ∙ ap (λ t. steps_at task plan t) (sym left-time)

  later : AllByRecursion (λ t. x.time <ℚ t) (times (after_run x.time (x ∷ xs)))
  later = (subst Ascends (times-run x xs l.falls) (ascending-Ascends (map (λ s. s.time) (x ∷ xs)))).0

  pub Left-next : Left task plan (suc k) (after_run x.time (x ∷ xs))
  Left-next = record {
    falls = falls-after x.time (x ∷ xs) l.falls;
    times_left = sym (drop-head (happenings task plan) k x.time (times (after_run x.time (x ∷ xs))) split).2;
    steps_left = all_both (λ t. x.time <ℚ t) (λ t. at_time t (x ∷ xs) ≡ steps_at task plan t) (λ t. at_time t (after_run x.time (x ∷ xs)) ≡ steps_at task plan t) (times (after_run x.time (x ∷ xs)))
        (λ t h e. runs.rest x xs t l.falls (other t h) ∙ e) later both.1;
  }
    where
      other : (t : ℚ) → x.time <ℚ t → (t =? x.time) ≡ false
      other t h = go (t =? x.time) refl
        where
          go : (b : Bool) → (t =? x.time) ≡ b → b ≡ false
          go true e = absurd (lt_irrefl x.time (subst (λ (q : ℚ). x.time <ℚ q) (eq_out t x.time e) h))
          go false e = refl

pub Left-end : (task : TaskParts) (plan : Plan) (k : ℕ) → Left task plan k [] → count task plan ≤ k
Left-end task plan k l = past (happenings task plan) k (sym l.times_left)
  where
    past : (ts : List ℚ) (k : ℕ) → drop k ts ≡ [] → length ts ≤ k
    past [] k e = omega arith
    past (t ∷ ts) zero e = cc
    past (t ∷ ts) (suc k) e = let r = past ts k e in omega (arith, r)

-- ---- from one happening to the next

Left-past : (task : TaskParts) (plan : Plan) (k : ℕ) → Left task plan k [] → Left task plan (suc k) []
Left-past task plan k l = record { falls = tt; times_left = sym (past (happenings task plan) k (sym l.times_left)); steps_left = tt }
  where
    past : (ts : List ℚ) (k : ℕ) → drop k ts ≡ [] → drop (suc k) ts ≡ []
    past [] k e = refl
    past (t ∷ ts) zero e = cc
    past (t ∷ []) (suc k) e = refl
    past (t ∷ u ∷ us) (suc k) e = past (u ∷ us) k e

pub Left-onward : (task : TaskParts) (plan : Plan) (k : ℕ) (rest : List Step) → Left task plan k rest → Left task plan (suc k) (drop (run_end rest) rest)
Left-onward task plan k [] l = Left-past task plan k l
Left-onward task plan k (x ∷ xs) l = subst (Left task plan (suc k)) (sym (drop-run x.time (x ∷ xs))) (Left-next task plan k x xs l)

pub Left-run : (task : TaskParts) (plan : Plan) (k : ℕ) (x : Step) (xs : List Step) → Left task plan k (x ∷ xs) → take (run_end (x ∷ xs)) (x ∷ xs) ≡ steps_at task plan (time_of task plan k)
Left-run task plan k x xs l = take-run x.time (x ∷ xs) ∙ left-here task plan k x xs l

pub run_end-within : (rest : List Step) → run_end rest ≤ length rest
run_end-within [] = omega arith
run_end-within (x ∷ xs) = length-run x.time (x ∷ xs)
