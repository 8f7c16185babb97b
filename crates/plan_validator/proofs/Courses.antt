-- The whole course gone along happening by happening.
use Rattle.std.proofs.Common.{◌≡◌, sym, ap, subst, ◌∙◌, ℕ, zero, suc, ◌+◌, ◌-◌, ◌<◌, List, [], ◌∷◌, ◌++◌, map, arith, add-one}
use native.Mathlib.Decide.{dec_lt}
use Rattle.exact_lin.specs.Reckoning.{wide_limit}
use Rattle.exact_lin.specs.Reckonings.{Reckoning, AllDefined, IsFirstUndefined}
use Rattle.task_types.specs.Sets.{numbers}
use Rattle.task_types.proofs.Places.{map-numbers-more}
use Rattle.timed_meaning.specs.Answers.{Defined}
use Rattle.timed_meaning.proofs.Courses.{Course, all-put, stop-put, first-put}

-- the parts of a defined course
pub defined-of : (ps : Course) (k : ℕ) (rs : List Reckoning) → AllDefined wide_limit (ps ++ (k, rs) ∷ []) → AllDefined wide_limit ps × Defined rs
defined-of [] k rs h = (tt, h.0)
defined-of (p ∷ ps) k rs h = let r = defined-of ps k rs h.1 in ((h.0, r.0), r.1)

module _ (g : ℕ → List Reckoning) where
  abbrev pub course : ℕ → Course
  course n = map (λ j. (j, g j)) (numbers n)

  course-more : (k : ℕ) → course (k + 1) ≡ course k ++ (k, g k) ∷ []
  course-more k = map-numbers-more (λ j. (j, g j)) k

  pub onward : (k : ℕ) → AllDefined wide_limit (course k) → Defined (g k) → AllDefined wide_limit (course (k + 1))
  onward k h d = subst (λ (ps : Course). AllDefined wide_limit ps) (sym (course-more k)) (all-put (course k) k (g k) h d)

  later : (j m : ℕ) → IsFirstUndefined wide_limit (course (j + 1)) j → IsFirstUndefined wide_limit (course (j + 1 + m)) j
  later j zero u = subst (λ k. IsFirstUndefined wide_limit (course k) j) (let e : j + 1 ≡ j + 1 + 0 = omega arith in e) u
  later j (suc m) u = subst (λ k. IsFirstUndefined wide_limit (course k) j) (let e : j + 1 + m + 1 ≡ j + 1 + suc m = omega arith in e)
      (subst (λ (ps : Course). IsFirstUndefined wide_limit ps j) (sym (course-more (j + 1 + m))) (first-put (course (j + 1 + m)) (j + 1 + m) (g (j + 1 + m)) j (later j m u)))

  pub stop : (j n : ℕ) → j < n → AllDefined wide_limit (course j) → ¬ (Defined (g j)) → IsFirstUndefined wide_limit (course n) j
  stop j n l h u = subst (λ i. IsFirstUndefined wide_limit (course i) j) (let e : j + 1 + (n - (j + 1)) ≡ n = omega (arith, l) in e)
      (later j (n - (j + 1)) (subst (λ (ps : Course). IsFirstUndefined wide_limit ps j) (sym (course-more j)) (stop-put (course j) j (g j) h u)))

  -- each of a defined course is
  pub defined-at : (n k : ℕ) → k < n → AllDefined wide_limit (course n) → Defined (g k)
  defined-at zero k l h = absurd (omega (arith, l))
  defined-at (suc n) k l h = go (defined-of (course n) n (g n) (subst (λ (ps : Course). AllDefined wide_limit ps) (ap course (sym (add-one n)) ∙ course-more n) h)) (λ (m : k < n) (a : AllDefined wide_limit (course n)). defined-at n k m a)
    where
      go : AllDefined wide_limit (course n) × Defined (g n) → (k < n → AllDefined wide_limit (course n) → Defined (g k)) → Defined (g k)
      go r f = elim (dec_lt k n) [
        | yes m ↦ f m r.0
        | no m ↦ subst (λ j. Defined (g j)) (let e : n ≡ k = omega (arith, l, m) in e) r.1
      ]
