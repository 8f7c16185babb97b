-- The timed steps along a list: they are those of the task, one after the other, and come in the order of their
-- moments.
use Rattle.std.proofs.Common.{◌≡◌, refl, sym, ap, ap₂, subst, ◌∙◌, ℕ, zero, suc, ◌+◌, ◌<◌, Bool, true, false, cond, ◌&&◌, ◌==◌, List, [], ◌∷◌, ◌++◌, map, length, take, drop, arith, Option, Some, None, append_assoc, length-append}
use Rattle.std.specs.Prelude.{slice_index, if◌then◌else◌}
use Rattle.std.specs.List.{list_any, list_all, filter, zip, AllByRecursion}
use Rattle.std.proofs.Math.Seq.{take-append_seam, get_or-append_seam}
use Rattle.std.proofs.lemmas.List.Sums.{sum_by-cons}
use Rattle.rational.specs.Rational.{ℚ, zeroℚ, ◌<ℚ◌}
use Rattle.basics.proofs.Bools.{and_left, and_right}
use Rattle.task_types.specs.declared.actions.SnapKind.{SnapKind}
use Rattle.task_types.specs.declared.actions.SnapKind.TheVariants.{Start, End, Instant, Timed}
use Rattle.task_types.specs.declared.parts.Rules.{Rules}
use Rattle.task_types.specs.declared.parts.TaskParts.{TaskParts}
use Rattle.task_types.specs.Tests.{◌=?◌, ◌≤?◌}
use Rattle.task_types.specs.Plan.{Step, snap_of}
use Rattle.task_types.specs.Touch.{is_timed}
use Rattle.task_types.specs.Order.{may_follow, timed_count}
use Rattle.task_types.specs.Agreement.{is_placed}
use Rattle.task_types.specs.WellMade.{are_timed, moments_ascend}
use Rattle.task_types.proofs.SnapTests.{timed_out}
use Rattle.ordering.proofs.MoreSteps.{timed_more}
use Rattle.ordered_course.specs.Lines.{duration_listed, started_on, steps_listed}
use Rattle.ordered_course.proofs.Moments.{moment_is, later_above}
use Rattle.ordered_course.proofs.Splitting.{of_moment}

-- each step of a list may follow those before it
abbrev pub Follow : TaskParts → List ℕ → Type 0
Follow task steps = (k : ℕ) → k < length steps → may_follow task (take k steps) (slice_index steps k) (snap_of task (slice_index steps k)).kind ≡ true

abbrev moment_step : ℚ × ℕ → Step
moment_step u = record { time = u.0; snap = u.1; duration = zeroℚ }

-- what a step at the seam of two parts is told
pub follows_here : (task : TaskParts) (pre suf : List ℕ) (s : ℕ) → Follow task (pre ++ s ∷ suf) → may_follow task pre s (snap_of task s).kind ≡ true
follows_here task pre suf s f = subst (λ n. may_follow task pre n (snap_of task n).kind ≡ true) itself (subst (λ xs. may_follow task xs (slice_index (pre ++ s ∷ suf) (length pre)) (snap_of task (slice_index (pre ++ s ∷ suf) (length pre))).kind ≡ true) before (f (length pre) shorter))
  where
    before : take (length pre) (pre ++ s ∷ suf) ≡ pre
    before = take-append_seam pre (s ∷ suf)

    itself : slice_index (pre ++ s ∷ suf) (length pre) ≡ s
    itself = get_or-append_seam pre s suf 0

    shorter : length pre < length (pre ++ s ∷ suf)
    shorter = omega (arith, length-append pre (s ∷ suf))

module _ (task : TaskParts) (rules : Rules) (n : ℕ) (numbered : are_timed task n task.timed ≡ true) where
  -- a timed step is the next moment of the task
  next_moment : (pre : List ℕ) (s : ℕ) (t : ℚ) → is_timed (snap_of task s).kind ≡ true → may_follow task pre s (snap_of task s).kind ≡ true → is_placed task rules s t ≡ true
      → drop (timed_count task pre) task.timed ≡ (t, s) ∷ drop (suc (timed_count task pre)) task.timed
  next_moment pre s t k m p = moment_is task task.timed n (timed_count task pre) s t numbered (subst (λ x. may_follow task pre s x ≡ true) (timed_out (snap_of task s).kind k) m) (placed (is_timed (snap_of task s).kind) k p)
    where
      placed : (b : Bool) → b ≡ true → (if b then list_any (λ m. (m.1 == s) && (m.0 =? t)) task.timed else ((zeroℚ ≤? t) && (t ≤? rules.horizon))) ≡ true → list_any (λ m. (m.1 == s) && (m.0 =? t)) task.timed ≡ true
      placed true e p = p
      placed false e p = let c : false ≡ true = e in cc

  one_step_more : (pre suf : List ℕ) (s : ℕ) → Follow task (pre ++ s ∷ suf) → Follow task ((pre ++ s ∷ []) ++ suf)
  one_step_more pre suf s f = subst (Follow task) (sym (append_assoc pre (s ∷ []) suf)) f

  counted : (pre : List ℕ) (s : ℕ) (b : Bool) → is_timed (snap_of task s).kind ≡ b → timed_count task (pre ++ s ∷ []) ≡ timed_count task pre + cond b 1 0
  counted pre s b e = timed_more task pre s ∙ ap (λ c. timed_count task pre + cond c 1 0) e

  -- the timed steps of what is left of a list are the next moments
  pub timed_from : (pre suf : List ℕ) (ts : List ℚ) (started : ℕ → ℚ) → length ts ≡ length suf → Follow task (pre ++ suf) → list_all (λ p. is_placed task rules p.0 p.1) (zip suf ts) ≡ true
      → filter (of_moment task) (steps_listed task started (zip suf ts)) ≡ map moment_step (take (timed_count task suf) (drop (timed_count task pre) task.timed))
  timed_from pre [] ts started l f p = refl
  timed_from pre (s ∷ suf) [] started l f p = absurd (omega (arith, l))
  timed_from pre (s ∷ suf) (t ∷ ts) started l f p = go (is_timed (snap_of task s).kind) refl
      (timed_from (pre ++ s ∷ []) suf ts (started_on (snap_of task s).kind (snap_of task s).action t started) (omega (arith, l)) (one_step_more pre suf s f) (and_right _ _ p))
    where
      rest : List Step
      rest = filter (of_moment task) (steps_listed task (started_on (snap_of task s).kind (snap_of task s).action t started) (zip suf ts))

      here : Step
      here = record { time = t; snap = s; duration = duration_listed task (snap_of task s).kind (snap_of task s).action started t (zip suf ts) }

      step_with : ℚ → ℕ → ℚ → Step
      step_with t s d = record { time = t; snap = s; duration = d }

      no_duration : (k : SnapKind) → k ≡ Timed → (o : Option ℕ) → duration_listed task k o started t (zip suf ts) ≡ zeroℚ
      no_duration k e (Some a) = ap (λ k. duration_listed task k (Some a) started t (zip suf ts)) e
      no_duration k e None = ap (λ k. duration_listed task k None started t (zip suf ts)) e

      first_counted : (b : Bool) → is_timed (snap_of task s).kind ≡ b → timed_count task (s ∷ suf) ≡ cond b 1 0 + timed_count task suf
      first_counted b e = sum_by-cons (λ x. cond (is_timed (snap_of task x).kind) 1 0) s suf ∙ ap (λ c. cond c 1 0 + timed_count task suf) e

      one_more : (n : ℕ) → n + 1 ≡ suc n
      one_more n = omega arith

      none_more : (n : ℕ) → n + 0 ≡ n
      none_more n = omega arith

      one_first : (n : ℕ) → 1 + n ≡ suc n
      one_first n = omega arith

      none_first : (n : ℕ) → 0 + n ≡ n
      none_first n = omega arith

      go : (b : Bool) → is_timed (snap_of task s).kind ≡ b
          → filter (of_moment task) (steps_listed task (started_on (snap_of task s).kind (snap_of task s).action t started) (zip suf ts)) ≡ map moment_step (take (timed_count task suf) (drop (timed_count task (pre ++ s ∷ [])) task.timed))
          → filter (of_moment task) (steps_listed task started (zip (s ∷ suf) (t ∷ ts))) ≡ map moment_step (take (timed_count task (s ∷ suf)) (drop (timed_count task pre) task.timed))
      go true e r = ap (λ c. cond c (here ∷ rest) rest) e
          ∙ ap₂ (λ (y : Step) (ys : List Step). y ∷ ys) (ap (step_with t s) (no_duration (snap_of task s).kind (timed_out (snap_of task s).kind e) (snap_of task s).action)) (r ∙ ap (λ c. map moment_step (take (timed_count task suf) (drop c task.timed))) (counted pre s true e ∙ one_more (timed_count task pre)))
          ∙ sym (ap (λ c. map moment_step (take c (drop (timed_count task pre) task.timed))) (first_counted true e ∙ one_first (timed_count task suf)) ∙ ap (λ l. map moment_step (take (suc (timed_count task suf)) l)) (next_moment pre s t e (follows_here task pre suf s f) (and_left (is_placed task rules s t) (list_all (λ p. is_placed task rules p.0 p.1) (zip suf ts)) p)))
      go false e r = ap (λ c. cond c (here ∷ rest) rest) e ∙ r
          ∙ ap₂ (λ (c d : ℕ). map moment_step (take c (drop d task.timed))) (sym (first_counted false e ∙ none_first (timed_count task suf))) (counted pre s false e ∙ none_more (timed_count task pre))

  module _ (ascend : moments_ascend zeroℚ task.timed ≡ true) where
    -- the timed steps after a timed step come later
    pub timed_later : (pre suf : List ℕ) (s : ℕ) (t : ℚ) (ts : List ℚ) (started : ℕ → ℚ) → is_timed (snap_of task s).kind ≡ true → length ts ≡ length suf → Follow task (pre ++ s ∷ suf) → is_placed task rules s t ≡ true → list_all (λ p. is_placed task rules p.0 p.1) (zip suf ts) ≡ true
        → AllByRecursion (λ y. of_moment task y ≡ true → t <ℚ y.time) (steps_listed task started (zip suf ts))
    timed_later pre suf s t ts started k l f h p =
        passing (of_moment task) (λ y. t <ℚ y.time) (steps_listed task started (zip suf ts))
        (subst (λ ys. AllByRecursion (λ y. t <ℚ y.time) ys) (sym (timed_from (pre ++ s ∷ []) suf ts started l (one_step_more pre suf s f) p ∙ ap (λ c. map moment_step (take (timed_count task suf) (drop c task.timed))) (counted pre s true k ∙ one_more (timed_count task pre))))
        (moved_all (λ y. t <ℚ y.time) (take (timed_count task suf) (drop (suc (timed_count task pre)) task.timed)) (first_ones (λ v. t <ℚ v.0) (timed_count task suf) (drop (suc (timed_count task pre)) task.timed)
        (later_above zeroℚ task.timed (timed_count task pre) (t, s) (drop (suc (timed_count task pre)) task.timed) ascend (next_moment pre s t k (follows_here task pre suf s f) h)))))
      where
        one_more : (n : ℕ) → n + 1 ≡ suc n
        one_more n = omega arith

        moved_all : (P : Step → Type 0) (us : List (ℚ × ℕ)) → AllByRecursion (λ u. P (moment_step u)) us → AllByRecursion P (map moment_step us)
        moved_all P [] a = tt
        moved_all P (u ∷ us) a = (a.0, moved_all P us a.1)

        first_ones : (P : ℚ × ℕ → Type 0) (m : ℕ) (us : List (ℚ × ℕ)) → AllByRecursion P us → AllByRecursion P (take m us)
        first_ones P zero us a = tt
        first_ones P (suc m) [] a = tt
        first_ones P (suc m) (u ∷ us) a = (a.0, first_ones P m us a.1)

        passing : (q : Step → Bool) (P : Step → Type 0) (ys : List Step) → AllByRecursion P (filter q ys) → AllByRecursion (λ y. q y ≡ true → P y) ys
        passing q P [] a = tt
        passing q P (y ∷ ys) a = go (q y) refl (passing q P ys) a
          where
            go : (b : Bool) → q y ≡ b → (AllByRecursion P (filter q ys) → AllByRecursion (λ y. q y ≡ true → P y) ys) → AllByRecursion P (cond b (y ∷ filter q ys) (filter q ys)) → (q y ≡ true → P y) × AllByRecursion (λ y. q y ≡ true → P y) ys
            go true e r a = (λ c. a.0, r a.1)
            go false e r a = (λ c. absurd (clash (sym c ∙ e)), r a)
              where
                clash : true ≡ false → ⊥
                clash c = cc
