-- Lines sorted by their starts are the lines by start: there is one such list.
use Rattle.std.proofs.Common.{◌≡◌, refl, sym, ap, subst, ◌∙◌, suc, ◌+◌, Bool, true, false, cond, List, [], ◌∷◌, arith, ⊎_elim}
use Rattle.std.specs.Prelude.{slice_index_or, None}
use Rattle.std.specs.List.{AllByRecursion, filter}
use Rattle.std.specs.Ordering.{is_lt}
use Rattle.std.specs.List.Sorted.{IsSortedBy, ties}
use Rattle.rational.specs.Rational.{ℚ, ◌≤ℚ◌, ◌<ℚ◌, cmp_ℚ}
use Rattle.rational.proofs.Inequalities.{le_trans, lt_le_trans}
use Rattle.rational.proofs.Order.{lt_irrefl}
use Rattle.rational.proofs.Order.{le_or_gt}
use Rattle.rational.proofs.Order.{le_antisymm}
use Rattle.task_types.specs.declared.plans.PlanLine.{PlanLine}
use Rattle.task_types.specs.Tests.{◌=?◌, ◌<?◌, ◌≤?◌}
use Rattle.task_types.specs.Plan.{Plan}
use Rattle.task_types.specs.Reckoned.{put_by_start, by_start}
use Rattle.task_types.proofs.Comparisons.{not_lt_out, lt_out, eq_out, le_in}
use Rattle.task_types.proofs.Everyone.{filter_same, all_tabulate}
use Rattle.timed_meaning.specs.declared.placing.PlacedLine.{PlacedLine}
use Rattle.timed_meaning.specs.Owned.{lines_of}
use Rattle.timed_meaning.proofs.Runs.{lt_bool, tie_is, same}
use Rattle.timed_meaning.proofs.Running.{Rises, by_start-rises, running-is}

abbrev pub starts_at : ℚ → Plan → Plan
starts_at t ls = filter (λ l. l.at =? t) ls

-- ---- one list that rises and has given lines at each start

none_later : (t : ℚ) (ls : Plan) → AllByRecursion (λ m. t <ℚ m.at) ls → starts_at t ls ≡ []
none_later t [] h = refl
none_later t (l ∷ ls) h = go (l.at =? t) refl (none_later t ls h.1)
  where
    go : (b : Bool) → (l.at =? t) ≡ b → starts_at t ls ≡ [] → cond b (l ∷ starts_at t ls) (starts_at t ls) ≡ []
    go true e r = absurd (lt_irrefl t (subst (λ (q : ℚ). t <ℚ q) (eq_out l.at t e) h.0))
    go false e r = r

first_low : (t : ℚ) (y : PlanLine) (ys : Plan) → Rises (y ∷ ys) → (starts_at t (y ∷ ys) ≡ [] → ⊥) → y.at ≤ℚ t
first_low t y ys r n = ⊎_elim (λ l. l) (λ g. absurd (n (none_later t (y ∷ ys) (g, beyond ys g r.0)))) (le_or_gt y.at t)
  where
    beyond : (zs : Plan) → t <ℚ y.at → AllByRecursion (λ m. y.at ≤ℚ m.at) zs → AllByRecursion (λ m. t <ℚ m.at) zs
    beyond [] g a = tt
    beyond (z ∷ zs) g a = (lt_le_trans t y.at z.at g a.0, beyond zs g a.1)

head-at : (x : PlanLine) (xs : Plan) → starts_at x.at (x ∷ xs) ≡ x ∷ starts_at x.at xs
head-at x xs = ap (λ b. cond b (x ∷ starts_at x.at xs) (starts_at x.at xs)) (same x.at)

pub one_sorted : (xs ys : Plan) → Rises xs → Rises ys → ((t : ℚ) → starts_at t xs ≡ starts_at t ys) → xs ≡ ys
one_sorted [] [] a b s = refl
one_sorted [] (y ∷ ys) a b s = let e : [] ≡ y ∷ starts_at y.at ys = s y.at ∙ head-at y ys in cc
one_sorted (x ∷ xs) [] a b s = let e : x ∷ starts_at x.at xs ≡ [] = sym (head-at x xs) ∙ s x.at in cc
one_sorted (x ∷ xs) (y ∷ ys) a b s = joined heads (one_sorted xs ys a.1 b.1 (λ t. tails t))
  where
    low : y.at ≤ℚ x.at
    low = first_low x.at y ys b (λ n. let e : x ∷ starts_at x.at xs ≡ [] = sym (head-at x xs) ∙ s x.at ∙ n in cc)

    high : x.at ≤ℚ y.at
    high = first_low y.at x xs a (λ n. let e : y ∷ starts_at y.at ys ≡ [] = sym (head-at y ys) ∙ sym (s y.at) ∙ n in cc)

    ats : x.at ≡ y.at
    ats = le_antisymm x.at y.at high low

    heads : x ≡ y
    heads = let e : x ∷ starts_at x.at xs ≡ y ∷ starts_at y.at ys = sym (head-at x xs) ∙ s x.at ∙ ap (λ t. starts_at t (y ∷ ys)) ats ∙ head-at y ys in cc

    tails : (t : ℚ) → starts_at t xs ≡ starts_at t ys
    tails t = go (x.at =? t) refl
      where
        go : (b : Bool) → (x.at =? t) ≡ b → starts_at t xs ≡ starts_at t ys
        go true e =
            let p : x ∷ starts_at t xs ≡ y ∷ starts_at t ys = sym (ap (λ c. cond c (x ∷ starts_at t xs) (starts_at t xs)) e) ∙ s t ∙ ap (λ c. cond c (y ∷ starts_at t ys) (starts_at t ys)) (ap (λ q. q =? t) (sym ats) ∙ e) in cc
        go false e = sym (ap (λ c. cond c (x ∷ starts_at t xs) (starts_at t xs)) e) ∙ s t ∙ ap (λ c. cond c (y ∷ starts_at t ys) (starts_at t ys)) (ap (λ q. q =? t) (sym ats) ∙ e)

    joined : x ≡ y → xs ≡ ys → (x ∷ xs) ≡ (y ∷ ys)
    joined e f = rw (e, f) refl

-- ---- the lines by start have the lines of each start

put-first : (l : PlanLine) (ms : Plan) → AllByRecursion (λ m. m.at ≡ l.at) ms → put_by_start l ms ≡ l ∷ ms
put-first l [] a = refl
put-first l (m ∷ ms) a = ap (λ c. cond c (l ∷ m ∷ ms) (m ∷ put_by_start l ms)) (ap (λ q. l.at ≤? q) a.0 ∙ le_in l.at l.at (le_self l.at))
  where
    le_self : (q : ℚ) → q ≤ℚ q
    le_self q = not_lt_out q q (self_not (q <? q) refl)
      where
        self_not : (b : Bool) → (q <? q) ≡ b → (q <? q) ≡ false
        self_not true e = absurd (lt_irrefl q (lt_out q q e))
        self_not false e = e

of_one_start : (t : ℚ) (ls : Plan) → AllByRecursion (λ m. m.at ≡ t) (starts_at t ls)
of_one_start t [] = tt
of_one_start t (l ∷ ls) = go (l.at =? t) refl (of_one_start t ls)
  where
    go : (b : Bool) → (l.at =? t) ≡ b → AllByRecursion (λ m. m.at ≡ t) (starts_at t ls) → AllByRecursion (λ m. m.at ≡ t) (cond b (l ∷ starts_at t ls) (starts_at t ls))
    go true e r = (eq_out l.at t e, r)
    go false e r = r

by_start-still : (t : ℚ) (ls : Plan) → AllByRecursion (λ m. m.at ≡ t) ls → by_start ls ≡ ls
by_start-still t [] a = refl
by_start-still t (l ∷ ls) a = ap (put_by_start l) (by_start-still t ls a.1) ∙ put-first l ls (subst (λ q. AllByRecursion (λ m. m.at ≡ q) ls) (sym a.0) a.1)

starts-by_start : (t : ℚ) (ls : Plan) → starts_at t (by_start ls) ≡ starts_at t ls
starts-by_start t ls = sym (running-is (λ l. l.at =? t) ls) ∙ by_start-still t (starts_at t ls) (of_one_start t ls)

-- ---- sorted lines

sorted-rises : (xs : List PlacedLine) → IsSortedBy (λ (x y : PlacedLine). is_lt (cmp_ℚ x.line.at y.line.at)) xs → Rises (lines_of xs)
sorted-rises [] h = tt
sorted-rises (x ∷ []) h = (tt, tt)
sorted-rises (x ∷ y ∷ ys) h = go (sorted-rises (y ∷ ys) (λ k d l m. subst (λ i. is_lt (cmp_ℚ (slice_index_or (x ∷ y ∷ ys) i d).line.at (slice_index_or (y ∷ ys) k d).line.at) ≡ false) (let e : suc k + 1 ≡ suc (k + 1) = omega arith in e) (h (suc k) d (omega arith) (omega (arith, m)))))
  where
    first : x.line.at ≤ℚ y.line.at
    first = not_lt_out y.line.at x.line.at (sym (lt_bool y.line.at x.line.at) ∙ h 0 x (omega arith) (omega arith))

    all_after : (zs : Plan) → AllByRecursion (λ z. y.line.at ≤ℚ z.at) zs → AllByRecursion (λ z. x.line.at ≤ℚ z.at) zs
    all_after [] a = tt
    all_after (z ∷ zs) a = (le_trans x.line.at y.line.at z.at first a.0, all_after zs a.1)

    go : Rises (lines_of (y ∷ ys)) → Rises (lines_of (x ∷ y ∷ ys))
    go r = ((first, all_after (lines_of ys) r.0), r)

starts-placed : (t : ℚ) (xs : List PlacedLine) → starts_at t (lines_of xs) ≡ lines_of (filter (λ p. p.line.at =? t) xs)
starts-placed t [] = refl
starts-placed t (x ∷ xs) = go (x.line.at =? t) (starts-placed t xs)
  where
    go : (b : Bool) → starts_at t (lines_of xs) ≡ lines_of (filter (λ p. p.line.at =? t) xs) → cond b (x.line ∷ starts_at t (lines_of xs)) (starts_at t (lines_of xs)) ≡ lines_of (cond b (x ∷ filter (λ p. p.line.at =? t) xs) (filter (λ p. p.line.at =? t) xs))
    go true r = ap (λ l. x.line ∷ l) r
    go false r = r

abbrev pub tie : ℚ → PlacedLine
tie t = record { place = 0; line = record { action = 0; at = t; duration = None; line = 0 }; end = t }

stable-at : (t : ℚ) (xs ys : List PlacedLine) → filter (ties (λ (x y : PlacedLine). is_lt (cmp_ℚ x.line.at y.line.at)) (tie t)) ys ≡ filter (ties (λ (x y : PlacedLine). is_lt (cmp_ℚ x.line.at y.line.at)) (tie t)) xs → starts_at t (lines_of ys) ≡ starts_at t (lines_of xs)
stable-at t xs ys e = starts-placed t ys ∙ ap lines_of (sym (alike ys) ∙ e ∙ alike xs) ∙ sym (starts-placed t xs)
  where
    alike : (zs : List PlacedLine) → filter (ties (λ (x y : PlacedLine). is_lt (cmp_ℚ x.line.at y.line.at)) (tie t)) zs ≡ filter (λ p. p.line.at =? t) zs
    alike zs = filter_same (ties (λ (x y : PlacedLine). is_lt (cmp_ℚ x.line.at y.line.at)) (tie t)) (λ p. p.line.at =? t) zs (all_tabulate (λ p. ties (λ (x y : PlacedLine). is_lt (cmp_ℚ x.line.at y.line.at)) (tie t) p ≡ (p.line.at =? t)) zs (λ p. tie_is t p.line.at))

pub sorted-is : (ls xs : List PlacedLine) → IsSortedBy (λ (x y : PlacedLine). is_lt (cmp_ℚ x.line.at y.line.at)) xs
    → ((t : ℚ) → filter (ties (λ (x y : PlacedLine). is_lt (cmp_ℚ x.line.at y.line.at)) (tie t)) xs ≡ filter (ties (λ (x y : PlacedLine). is_lt (cmp_ℚ x.line.at y.line.at)) (tie t)) ls)
    → lines_of xs ≡ by_start (lines_of ls)
sorted-is ls xs s e = one_sorted (lines_of xs) (by_start (lines_of ls)) (sorted-rises xs s) (by_start-rises (lines_of ls)) (λ t. stable-at t ls xs (e t) ∙ sym (starts-by_start t (lines_of ls)))
