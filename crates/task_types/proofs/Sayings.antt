-- Trajectory constraints, by index and by one pass along the states.
use Rattle.std.proofs.Common.{◌≡◌, refl, sym, ap, subst, ◌∙◌, ℕ, zero, suc, ◌-◌, ◌<◌, Bool, true, false, not, ◌&&◌, ◌||◌, List, [], ◌∷◌, length, map, arith}
use Rattle.std.specs.Prelude.{nat_le, ◌↔◌, if◌then◌else◌}
use Rattle.std.specs.List.{list_all, list_any}
use Rattle.std.proofs.Math.Path.{fun_ext}
use Rattle.std.proofs.lemmas.List.{length-map}
use Rattle.std.proofs.lemmas.Bool.Decides.{nat_tests}
use Rattle.basics.proofs.Bools.{and_assoc, or_assoc, not_true}
use Rattle.task_types.specs.declared.constraints.TrailKind.{TrailKind}
use Rattle.task_types.specs.declared.constraints.TrailKind.TheVariants.{Always, Sometime, Within, AtMostOnce, SometimeAfter, SometimeBefore, AtEnd}
use Rattle.task_types.specs.Tests.{◌≤?◌, every, some, ◌⇒◌}
use Rattle.task_types.specs.State.{tree_holds}
use Rattle.task_types.specs.Trace.{Trace, Moment, at, kept, met}
use Rattle.task_types.specs.Laws.{none_later, run_ends, one_run, are_answered, are_prepared, ends_with, kept_along, NoGap, ConstraintsAlongTheTrace}
use Rattle.task_types.proofs.Traces as by_index

-- ---- the first number, then the others

and_true : (b : Bool) → (true && b) ≡ (b && true)
and_true true = refl
and_true false = refl

or_false : (b : Bool) → (false || b) ≡ (b || false)
or_false true = refl
or_false false = refl

pub every_front : (n : ℕ) (p : ℕ → Bool) → every (suc n) p ≡ (p 0 && every n (λ k. p (suc k)))
every_front zero p = and_true (p 0)
every_front (suc n) p = ap (λ b. b && p (suc n)) (every_front n p) ∙ and_assoc (p 0) (every n (λ k. p (suc k))) (p (suc n))

pub some_front : (n : ℕ) (p : ℕ → Bool) → some (suc n) p ≡ (p 0 || some n (λ k. p (suc k)))
some_front zero p = or_false (p 0)
some_front (suc n) p = ap (λ b. b || p (suc n)) (some_front n p) ∙ or_assoc (p 0) (some n (λ k. p (suc k))) (p (suc n))

nat_le-zero : (i : ℕ) → nat_le 0 i ≡ true
nat_le-zero i = grind (arith, nat_tests)

nat_le-suc-zero : (i : ℕ) → nat_le (suc i) 0 ≡ false
nat_le-suc-zero i = grind (arith, nat_tests)

nat_le-suc : (i k : ℕ) → nat_le (suc i) (suc k) ≡ nat_le i k
nat_le-suc i k = grind (arith, nat_tests)

-- from a number on
some_from : (n i : ℕ) (b : ℕ → Bool) → some (suc n) (λ j. nat_le (suc i) j && b j) ≡ some n (λ j. nat_le i j && b (suc j))
some_from n i b = some_front n (λ j. nat_le (suc i) j && b j)
    ∙ ap (λ c. c && b 0 || some n (λ k. nat_le (suc i) (suc k) && b (suc k))) (nat_le-suc-zero i)
    ∙ ap (λ (p : ℕ → Bool). some n p) (fun_ext (λ k. ap (λ c. c && b (suc k)) (nat_le-suc i k)))

module _ {M : Type 0} where
  every-along : (a : M → Bool) (ms : List M) → every (length ms) (λ k. at ms k a) ≡ list_all a ms
  every-along a [] = refl
  every-along a (m ∷ ms) = every_front (length ms) (λ k. at (m ∷ ms) k a) ∙ ap (λ b. a m && b) (every-along a ms)

  some-along : (a : M → Bool) (ms : List M) → some (length ms) (λ k. at ms k a) ≡ list_any a ms
  some-along a [] = refl
  some-along a (m ∷ ms) = some_front (length ms) (λ k. at (m ∷ ms) k a) ∙ ap (λ b. a m || b) (some-along a ms)

  both_at : (a c : M → Bool) (ms : List M) (k : ℕ) → (at ms k a && at ms k c) ≡ at ms k (λ m. a m && c m)
  both_at a c [] k = refl
  both_at a c (m ∷ ms) zero = refl
  both_at a c (m ∷ ms) (suc k) = both_at a c ms k

  answered-along : (a b : M → Bool) (ms : List M) → every (length ms) (λ i. at ms i a ⇒ some (length ms) (λ j. nat_le i j && at ms j b)) ≡ are_answered a b ms
  answered-along a b [] = refl
  answered-along a b (m ∷ ms) = every_front (length ms) (λ i. at (m ∷ ms) i a ⇒ some (suc (length ms)) (λ j. nat_le i j && at (m ∷ ms) j b))
      ∙ ap (λ (p : ℕ → Bool). (a m ⇒ some (suc (length ms)) p) && every (length ms) (λ i. at ms i a ⇒ some (suc (length ms)) (λ j. nat_le (suc i) j && at (m ∷ ms) j b))) (fun_ext (λ j. ap (λ c. c && at (m ∷ ms) j b) (nat_le-zero j)))
      ∙ ap (λ c. (a m ⇒ c) && every (length ms) (λ i. at ms i a ⇒ some (suc (length ms)) (λ j. nat_le (suc i) j && at (m ∷ ms) j b))) (some-along b (m ∷ ms))
      ∙ ap (λ (p : ℕ → Bool). (a m ⇒ list_any b (m ∷ ms)) && every (length ms) p) (fun_ext (λ i. ap (λ c. at ms i a ⇒ c) (some_from (length ms) i (λ j. at (m ∷ ms) j b))))
      ∙ ap (λ c. (a m ⇒ list_any b (m ∷ ms)) && c) (answered-along a b ms)

  prepared-along : (s : Bool) (a b : M → Bool) (ms : List M) → every (length ms) (λ i. at ms i a ⇒ (s || some i (λ k. at ms k b))) ≡ are_prepared s a b ms
  prepared-along s a b [] = refl
  prepared-along s a b (m ∷ ms) = every_front (length ms) (λ i. at (m ∷ ms) i a ⇒ (s || some i (λ k. at (m ∷ ms) k b)))
      ∙ ap (λ c. (a m ⇒ c) && every (length ms) (λ i. at ms i a ⇒ (s || some (suc i) (λ k. at (m ∷ ms) k b)))) (sym (or_false s) ∙ nothing s)
      ∙ ap (λ (p : ℕ → Bool). (a m ⇒ s) && every (length ms) p) (fun_ext (λ i. ap (λ c. at ms i a ⇒ c) (ap (λ c. s || c) (some_front i (λ k. at (m ∷ ms) k b)) ∙ sym (or_assoc s (b m) (some i (λ k. at ms k b))))))
      ∙ ap (λ c. (a m ⇒ s) && c) (prepared-along (s || b m) a b ms)
    where
      nothing : (s : Bool) → (false || s) ≡ s
      nothing s = refl

  ends-along : (a : M → Bool) (ms : List M) → at ms (length ms - 1) a ≡ ends_with a ms
  ends-along a [] = refl
  ends-along a (m ∷ []) = refl
  ends-along a (m ∷ n ∷ ms) = let e : length (m ∷ n ∷ ms) - 1 ≡ suc (length (n ∷ ms) - 1) = omega arith in ap (λ k. at (m ∷ n ∷ ms) k a) e ∙ ends-along a (n ∷ ms)

-- ---- at most once

iff_same : (a b : Bool) → (a ≡ true → b ≡ true) → (b ≡ true → a ≡ true) → a ≡ b
iff_same true b f g = sym (f refl)
iff_same false true f g = g refl
iff_same false false f g = refl

module _ {M : Type 0} where
  none-of-truths : (a : M → Bool) (ms : List M) → by_index.none_holds (map a ms) ≡ none_later a ms
  none-of-truths a [] = refl
  none-of-truths a (m ∷ ms) = ap (λ b. not (a m) && b) (none-of-truths a ms)

  run_ends-of-truths : (a : M → Bool) (ms : List M) → by_index.run_ends (map a ms) ≡ run_ends a ms
  run_ends-of-truths a [] = refl
  run_ends-of-truths a (m ∷ ms) = go (a m) (run_ends-of-truths a ms)
    where
      go : (b : Bool) → by_index.run_ends (map a ms) ≡ run_ends a ms → by_index.run_ends (b ∷ map a ms) ≡ (if b then run_ends a ms else none_later a ms)
      go true e = e
      go false e = none-of-truths a ms

  one_run-of-truths : (a : M → Bool) (ms : List M) → by_index.one_run (map a ms) ≡ one_run a ms
  one_run-of-truths a [] = refl
  one_run-of-truths a (m ∷ ms) = go (a m) (one_run-of-truths a ms)
    where
      go : (b : Bool) → by_index.one_run (map a ms) ≡ one_run a ms → by_index.one_run (b ∷ map a ms) ≡ (if b then run_ends a ms else one_run a ms)
      go true e = run_ends-of-truths a ms
      go false e = e

  truth-at : (a : M → Bool) (ms : List M) (k : ℕ) → at ms k a ≡ by_index.truth_of (map a ms) k
  truth-at a [] k = refl
  truth-at a (m ∷ ms) zero = refl
  truth-at a (m ∷ ms) (suc k) = truth-at a ms k

  gap_to_truths : (a : M → Bool) (ms : List M) → by_index.NoGap (length ms) (λ k. at ms k a) → by_index.NoGap (length (map a ms)) (by_index.truth_of (map a ms))
  gap_to_truths a ms g = subst (λ n. by_index.NoGap n (by_index.truth_of (map a ms))) (sym (length-map ms a)) (subst (λ (p : ℕ → Bool). by_index.NoGap (length ms) p) (fun_ext (truth-at a ms)) g)

  gap_from_truths : (a : M → Bool) (ms : List M) → by_index.NoGap (length (map a ms)) (by_index.truth_of (map a ms)) → by_index.NoGap (length ms) (λ k. at ms k a)
  gap_from_truths a ms g = subst (λ (p : ℕ → Bool). by_index.NoGap (length ms) p) (sym (fun_ext (truth-at a ms))) (subst (λ n. by_index.NoGap n (by_index.truth_of (map a ms))) (length-map ms a) g)

  once-along : (a b soon : M → Bool) (ms : List M) → kept AtMostOnce (length ms) (λ k. at ms k a) (λ k. at ms k b) (λ k. at ms k soon) ≡ one_run a ms
  once-along a b soon ms = iff_same (kept AtMostOnce (length ms) (λ k. at ms k a) (λ k. at ms k b) (λ k. at ms k soon)) (one_run a ms)
      (λ e. sym (one_run-of-truths a ms) ∙ by_index.one_run_in (map a ms) (gap_to_truths a ms ((by_index.at_most_once-no_gap (length ms) (λ k. at ms k a) (λ k. at ms k b) (λ k. at ms k soon)).0 e)))
      (λ e. (by_index.at_most_once-no_gap (length ms) (λ k. at ms k a) (λ k. at ms k b) (λ k. at ms k soon)).1 (gap_from_truths a ms (by_index.one_run_out (map a ms) (one_run-of-truths a ms ∙ e))))

  pub kept-along : (kind : TrailKind) (a b soon : M → Bool) (ms : List M) → kept kind (length ms) (λ k. at ms k a) (λ k. at ms k b) (λ k. at ms k soon) ≡ kept_along kind a b soon ms
  kept-along Always a b soon ms = every-along a ms
  kept-along Sometime a b soon ms = some-along a ms
  kept-along Within a b soon ms = ap (λ (p : ℕ → Bool). some (length ms) p) (fun_ext (both_at a soon ms)) ∙ some-along (λ m. a m && soon m) ms
  kept-along AtMostOnce a b soon ms = once-along a b soon ms
  kept-along SometimeAfter a b soon ms = answered-along a b ms
  kept-along SometimeBefore a b soon ms = ap (λ (p : ℕ → Bool). every (length ms) p) (fun_ext (λ i. ap (λ c. at ms i a ⇒ c) refl)) ∙ prepared-along false a b ms
  kept-along AtEnd a b soon ms = ends-along a ms

-- ---- no gap, of the states

pub at_below : {M : Type 0} (a : M → Bool) (ms : List M) (k : ℕ) → at ms k a ≡ true → k < length ms
at_below a [] k h = let c : false ≡ true = h in cc
at_below a (m ∷ ms) zero h = omega arith
at_below a (m ∷ ms) (suc k) h = let b : k < length ms = at_below a ms k h in omega arith

fails_at : {M : Type 0} (a : M → Bool) (ms : List M) (k : ℕ) → k < length ms → at ms k a ≡ false → at ms k (λ m. not (a m)) ≡ true
fails_at a [] k h e = absurd (omega arith)
fails_at a (m ∷ ms) zero h e = ap not e
fails_at a (m ∷ ms) (suc k) h e = fails_at a ms k (omega arith) e

failed_at : {M : Type 0} (a : M → Bool) (ms : List M) (k : ℕ) → at ms k (λ m. not (a m)) ≡ true → at ms k a ≡ false
failed_at a [] k h = refl
failed_at a (m ∷ ms) zero h = not_true (a m) h
failed_at a (m ∷ ms) (suc k) h = failed_at a ms k h

pub gap_free : (a b soon : Moment → Bool) (xs : Trace) → kept AtMostOnce (length xs) (λ k. at xs k a) (λ k. at xs k b) (λ k. at xs k soon) ≡ true ↔ NoGap xs a
gap_free a b soon xs = (
  λ e i j k h l p q r. (by_index.at_most_once-no_gap (length xs) (λ k. at xs k a) (λ k. at xs k b) (λ k. at xs k soon)).0 e i j k h l (at_below a xs k r) p (failed_at a xs j q) r,
  λ g. (by_index.at_most_once-no_gap (length xs) (λ k. at xs k a) (λ k. at xs k b) (λ k. at xs k soon)).1 (λ i j k h l m p q r. g i j k h l p (fails_at a xs j (omega arith) q) r),
)

pub constraints_along : ConstraintsAlongTheTrace
unfolding met
constraints_along = record {
  along = λ c xs. kept-along c.kind (λ m. tree_holds c.first m.facts) (λ m. tree_holds c.second m.facts) (λ m. m.time ≤? c.moment) xs;
  no_gap = λ c xs e. subst (λ (kind : TrailKind). kept kind (length xs) (λ k. at xs k (λ m. tree_holds c.first m.facts)) (λ k. at xs k (λ m. tree_holds c.second m.facts)) (λ k. at xs k (λ m. m.time ≤? c.moment)) ≡ true ↔ NoGap xs (λ m. tree_holds c.first m.facts)) (sym e)
      (gap_free (λ m. tree_holds c.first m.facts) (λ m. tree_holds c.second m.facts) (λ m. m.time ≤? c.moment) xs);
}
