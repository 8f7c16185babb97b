-- A course gone along place by place.
use Rattle.std.proofs.Common.{◌≡◌, refl, sym, subst, ℕ, zero, suc, ◌+◌, ◌-◌, ◌<◌, List, [], ◌∷◌, ◌++◌, inl, inr, arith}
use Rattle.std.specs.Prelude.{Result, Err}
use Rattle.timed_meaning.specs.declared.states.State.{State}
use Rattle.task_types.specs.State as meaning
use Rattle.timed_meaning.specs.declared.faults.MeaningFault.{MeaningFault}
use Rattle.timed_meaning.specs.declared.faults.MeaningFault.TheVariants.{Wide, Memory}
use Rattle.timed_meaning.specs.States.{Gives, Reaches}
use Rattle.exact_lin.specs.Reckoning.{wide_limit}
use Rattle.exact_lin.specs.Reckonings.{Reckoning, AllDefined, IsFirstUndefined}
use Rattle.task_types.specs.declared.parts.TaskParts.{TaskParts}
use Rattle.task_types.specs.Plan.{Plan}
use Rattle.rational.specs.Rational.{ℚ}
use Rattle.task_types.specs.Reckoned.{course_before, course_after, course_reaching, effects_at, move_at, move_to}
use Rattle.task_types.proofs.Places.{map-numbers-more}
use Rattle.timed_meaning.specs.Answers.{Defined}

abbrev pub Course : Type 0
Course = List (ℕ × List Reckoning)

pub all-put : (ps : Course) (k : ℕ) (rs : List Reckoning) → AllDefined wide_limit ps → Defined rs → AllDefined wide_limit (ps ++ (k, rs) ∷ [])
all-put [] k rs h d = (d, tt)
all-put (p ∷ ps) k rs h d = (h.0, all-put ps k rs h.1 d)

pub stop-put : (ps : Course) (k : ℕ) (rs : List Reckoning) → AllDefined wide_limit ps → ¬ (Defined rs) → IsFirstUndefined wide_limit (ps ++ (k, rs) ∷ []) k
stop-put [] k rs h n = inl (n, refl)
stop-put (p ∷ ps) k rs h n = inr (h.0, stop-put ps k rs h.1 n)

pub first-put : (ps : Course) (k : ℕ) (rs : List Reckoning) (j : ℕ) → IsFirstUndefined wide_limit ps j → IsFirstUndefined wide_limit (ps ++ (k, rs) ∷ []) j
first-put [] k rs j u = absurd u
first-put (p ∷ ps) k rs j (inl u) = inl u
first-put (p ∷ ps) k rs j (inr u) = inr (u.0, first-put ps k rs j u.1)

module _ (task : TaskParts) (plan : Plan) where
  course-more : (k : ℕ) → course_before task plan (k + 1) ≡ course_before task plan k ++ (k, effects_at task plan k ++ move_at task plan k) ∷ []
  course-more k = map-numbers-more (λ j. (j, effects_at task plan j ++ move_at task plan j)) k

  pub course-onward : (k : ℕ) → AllDefined wide_limit (course_before task plan k) → Defined (effects_at task plan k ++ move_at task plan k) → AllDefined wide_limit (course_before task plan (k + 1))
  course-onward k h d = subst (λ (ps : Course). AllDefined wide_limit ps) (sym (course-more k)) (all-put (course_before task plan k) k (effects_at task plan k ++ move_at task plan k) h d)

  later : (j m : ℕ) → IsFirstUndefined wide_limit (course_before task plan (j + 1)) j → IsFirstUndefined wide_limit (course_before task plan (j + 1 + m)) j
  later j zero u = subst (λ k. IsFirstUndefined wide_limit (course_before task plan k) j) (let e : j + 1 ≡ j + 1 + 0 = omega arith in e) u
  later j (suc m) u = subst (λ k. IsFirstUndefined wide_limit (course_before task plan k) j) (let e : j + 1 + m + 1 ≡ j + 1 + suc m = omega arith in e)
      (subst (λ (ps : Course). IsFirstUndefined wide_limit ps j) (sym (course-more (j + 1 + m))) (first-put (course_before task plan (j + 1 + m)) (j + 1 + m) (effects_at task plan (j + 1 + m) ++ move_at task plan (j + 1 + m)) j (later j m u)))

  pub course-stop : (j k : ℕ) → j < k → AllDefined wide_limit (course_before task plan j) → ¬ (Defined (effects_at task plan j ++ move_at task plan j)) → IsFirstUndefined wide_limit (course_before task plan k) j
  course-stop j k l h n = subst (λ i. IsFirstUndefined wide_limit (course_before task plan i) j) (let e : j + 1 + (k - (j + 1)) ≡ k = omega (arith, l) in e)
      (later j (k - (j + 1)) (subst (λ (ps : Course). IsFirstUndefined wide_limit ps j) (sym (course-more j)) (stop-put (course_before task plan j) j (effects_at task plan j ++ move_at task plan j) h n)))

  -- a fault on the way to a happening is one on the way to its effects
  pub passed-on : (k : ℕ) (f : MeaningFault) (meant : meaning.State) → Reaches (Err f) task plan k → Gives (Err f) task (course_after task plan k) meant
  passed-on k (Wide j) meant u = first-put (course_before task plan k) k (effects_at task plan k) j u
  passed-on k Memory meant u = tt

  -- and one on the way to a time after them
  pub passed-past : (k : ℕ) (to : ℚ) (f : MeaningFault) (meant : meaning.State) → Reaches (Err f) task plan k → Gives (Err f) task (course_reaching task plan (suc k) to) meant
  passed-past k to (Wide j) meant u = first-put (course_before task plan k) k (effects_at task plan k ++ move_to task plan k to) j u
  passed-past k to Memory meant u = tt

  -- the same answer for an equal course and state
  pub gives-as : (r : Result State MeaningFault) (ps qs : Course) (m n : meaning.State) → ps ≡ qs → m ≡ n → Gives r task ps m → Gives r task qs n
  gives-as r ps qs m n e f g = subst (λ (cs : Course). Gives r task cs n) e (subst (λ (s : meaning.State). Gives r task ps s) f g)
