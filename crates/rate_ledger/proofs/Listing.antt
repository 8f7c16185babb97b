-- The steps of an ordering at some times are the timed steps of its list at the point that the times make.
use Rattle.std.proofs.Common.{◌≡◌, refl, sym, ap, ap₂, subst, ◌∙◌, ℕ, zero, suc, ◌+◌, ◌<◌, ◌≤◌, true, false, ◌||◌, List, [], ◌∷◌, ◌++◌, map, length, take, drop, arith, append_assoc, length-append, Option, Some, None}
use Rattle.std.specs.Prelude.{slice_index, slice_index_or, option_to_list, if◌then◌else◌}
use Rattle.std.specs.List.{zip, range_with_len}
use Rattle.std.proofs.Math.Seq.{take-append_seam, get_or-append_seam, drop-append-add}
use Rattle.std.proofs.lemmas.List.{drop-append-le, get_or-append-add}
use Rattle.rational.specs.Rational.{ℚ, zeroℚ, ◌-ℚ◌}
use Rattle.basics.proofs.Bools.{or_false}
use Rattle.basics.proofs.Naturals.{same_itself}
use Rattle.exact_lin.specs.Forms.{values_of}
use Rattle.task_types.specs.declared.actions.SnapKind.{SnapKind}
use Rattle.task_types.specs.declared.actions.SnapKind.TheVariants.{Start, End, Instant, Timed}
use Rattle.task_types.specs.declared.parts.TaskParts.{TaskParts}
use Rattle.task_types.specs.Sets.{is_in, meet, numbers}
use Rattle.task_types.specs.Plan.{Step, action_of, snap_of}
use Rattle.task_types.specs.Order.{running, may_follow}
use Rattle.task_types.specs.Agreement.{end_time}
use Rattle.task_types.specs.Blocking.{start_number}
use Rattle.ordered_course.specs.Lines.{duration_listed, started_on, steps_listed}
use Rattle.ordered_course.proofs.Closing.{HaveActions}
use Rattle.ordered_course.proofs.Listed.{AreOwned}
use Rattle.ordered_course.proofs.TimedSteps.{Follow, follows_here}
use Rattle.rate_ledger.specs.Entries.{place_of, first_end, or_else, end_variable, started_by}
use Rattle.rate_ledger.specs.Carrying.{duration_at, timed_step}
use Rattle.rate_ledger.proofs.Spans.{end_is, AllRun, RunsSince, all_run, none_first, length_drop}

-- times past the end are 0
past : (ts : List ℚ) (n : ℕ) → length ts ≤ n → slice_index_or ts n zeroℚ ≡ zeroℚ
past [] n l = refl
past (t ∷ ts) zero l = absurd (omega (arith, l))
past (t ∷ ts) (suc n) l = past ts n (omega (arith, l))

module _ (task : TaskParts) (owned : AreOwned task) (have : HaveActions task) (steps : List ℕ) (times : List ℚ) (long : length times ≡ length steps) (follows : Follow task steps) where
  abbrev y : ℕ → ℚ
  y = values_of times

  -- a step at the seam of two parts
  module _ (pre suf : List ℕ) (s : ℕ) (t : ℚ) (pts ts : List ℚ) (split : steps ≡ pre ++ s ∷ suf) (timed : times ≡ pts ++ t ∷ ts) (lengths : length pts ≡ length pre) where
    rests : length ts ≡ length suf
    rests = let a : length steps ≡ length pre + suc (length suf) = ap length split ∙ length-append pre (s ∷ suf) in
        let b : length times ≡ length pts + suc (length ts) = ap length timed ∙ length-append pts (t ∷ ts) in
        omega (arith, a, b, long, lengths)

    at_seam : y (length pre) ≡ t
    at_seam = ap₂ (λ (xs : List ℚ) (n : ℕ). slice_index_or xs n zeroℚ) timed (sym lengths) ∙ get_or-append_seam pts t ts zeroℚ

    snap_here : slice_index steps (length pre) ≡ s
    snap_here = ap (λ xs. slice_index xs (length pre)) split ∙ get_or-append_seam pre s suf 0

    taken : take (length pre) steps ≡ pre
    taken = ap (take (length pre)) split ∙ take-append_seam pre (s ∷ suf)

    dropped : drop (suc (length pre)) steps ≡ suf
    dropped = let e : suc (length pre) ≡ length pre + 1 = omega arith in ap₂ (λ (n : ℕ) (xs : List ℕ). drop n xs) e split ∙ drop-append-add pre (s ∷ suf) 1

    later_times : (i : ℕ) → i < length suf → y (suc (length pre) + i) ≡ slice_index_or ts i zeroℚ
    later_times i l = let e : suc (length pre) + i ≡ length pts + suc i = omega (arith, lengths) in ap₂ (λ (xs : List ℚ) (n : ℕ). slice_index_or xs n zeroℚ) timed e ∙ get_or-append-add pts (t ∷ ts) (suc i) zeroℚ

    past_all : (m : ℕ) → y (length steps + m) ≡ zeroℚ
    past_all m = past times (length steps + m) (omega (arith, long))

    start_end : (a : ℕ) → end_time task a (zip suf ts) ≡ y (end_variable task steps (length pre) a)
    start_end a = end_is task a (suc (length pre)) (length steps + place_of a (running task steps)) suf ts y rests later_times (past_all (place_of a (running task steps)))
        ∙ ap (λ xs. y (or_else (first_end task a (suc (length pre)) xs) (length steps + place_of a (running task steps)))) (sym dropped)

    -- the end that a running action goes on to is the step that ends it
    this_end : (started : ℕ → ℚ) (a : ℕ) → RunsSince task owned y pre started a → is_in s (option_to_list (action_of task a).end) ≡ true → end_variable task steps (start_number task a 0 pre 0) a ≡ length pre
    this_end started a r e = ap (λ o. or_else o (length steps + place_of a (running task steps))) (ap (first_end task a (suc (start_number task a 0 pre 0))) (ap (drop (suc (start_number task a 0 pre 0))) split ∙ drop-append-le (suc (start_number task a 0 pre 0)) pre (s ∷ suf) within)
        ∙ none_first task a (suc (start_number task a 0 pre 0)) (drop (suc (start_number task a 0 pre 0)) pre) (s ∷ suf) r.no_end
        ∙ ap (λ b. if b then Some (suc (start_number task a 0 pre 0) + length (drop (suc (start_number task a 0 pre 0)) pre)) else first_end task a (suc (suc (start_number task a 0 pre 0) + length (drop (suc (start_number task a 0 pre 0)) pre))) suf) e
        ∙ ap Some (length_drop (suc (start_number task a 0 pre 0)) pre within))
      where
        within : suc (start_number task a 0 pre 0) ≤ length pre
        within = let w : start_number task a 0 pre 0 < length pre = r.within in omega (arith, w)

    runs_here : (a : ℕ) → (snap_of task s).kind ≡ End → (snap_of task s).action ≡ Some a → is_in a (running task pre) ≡ true
    runs_here a k o = sym (or_false (is_in a (running task pre))) ∙ ap (λ o. meet (option_to_list o) (running task pre)) (sym o) ∙ subst (λ x. may_follow task pre s x ≡ true) k (follows_here task pre suf s (subst (Follow task) split follows))

    -- the duration of the step
    duration_is : (started : ℕ → ℚ) → AllRun task owned y pre started → (k : SnapKind) (o : Option ℕ) → (snap_of task s).kind ≡ k → (snap_of task s).action ≡ o
        → duration_listed task k o started t (zip suf ts) ≡ duration_at task steps y (started_by task steps (length pre) k (option_to_list o))
    duration_is started h Start (Some a) k o = ap₂ (λ (u v : ℚ). u -ℚ v) (start_end a) (sym at_seam)
    duration_is started h End (Some a) k o = let r = h a (runs_here a k o) in
        ap₂ (λ (u v : ℚ). u -ℚ v) (sym at_seam ∙ ap y (sym (this_end started a r (ap (λ e. is_in s (option_to_list e)) (owned.ends s a k o) ∙ ap (λ c. c || false) (same_itself s))))) r.time
        ∙ ap (λ xs. y (end_variable task steps (start_number task a 0 xs 0) a) -ℚ y (start_number task a 0 xs 0)) (sym taken)
    duration_is started h Instant (Some a) k o = refl
    duration_is started h Timed (Some a) k o = refl
    duration_is started h Start None k o = refl
    duration_is started h End None k o = refl
    duration_is started h Instant None k o = refl
    duration_is started h Timed None k o = refl

    step_is : (started : ℕ → ℚ) → AllRun task owned y pre started → record { time = t; snap = s; duration = duration_listed task (snap_of task s).kind (snap_of task s).action started t (zip suf ts) } ≡ timed_step task steps y (length pre)
    step_is started h = ap₂ (λ (u d : ℚ). record { time = u; snap = s; duration = d }) (sym at_seam) (duration_is started h (snap_of task s).kind (snap_of task s).action refl refl)
        ∙ ap (λ n. record { time = y (length pre); snap = n; duration = duration_at task steps y (started_by task steps (length pre) (snap_of task n).kind (option_to_list (snap_of task n).action)) }) (sym snap_here)

  -- all steps from one on
  listed_is : (pre suf : List ℕ) (pts ts : List ℚ) (started : ℕ → ℚ) → steps ≡ pre ++ suf → times ≡ pts ++ ts → length pts ≡ length pre → AllRun task owned y pre started
      → steps_listed task started (zip suf ts) ≡ map (timed_step task steps y) (range_with_len (length pre) (length suf))
  listed_is pre [] pts ts started e f l h = refl
  listed_is pre (s ∷ suf) pts [] started e f l h = absurd (let a : length steps ≡ length pre + suc (length suf) = ap length e ∙ length-append pre (s ∷ suf) in let b : length times ≡ length pts + 0 = ap length f ∙ length-append pts [] in omega (arith, a, b, long, l))
  listed_is pre (s ∷ suf) pts (t ∷ ts) started e f l h = ap₂ (λ (x : Step) (xs : List Step). x ∷ xs) (step_is pre suf s t pts ts e f l started h)
      (listed_is (pre ++ s ∷ []) suf (pts ++ t ∷ []) ts (started_on (snap_of task s).kind (snap_of task s).action t started) (e ∙ sym (append_assoc pre (s ∷ []) suf)) (f ∙ sym (append_assoc pts (t ∷ []) ts)) (let a : length (pts ++ t ∷ []) ≡ length pts + 1 = length-append pts (t ∷ []) in omega (arith, a, longer, l)) (all_run task owned y have pre s t started (at_seam pre suf s t pts ts e f l) h)
      ∙ ap (λ n. map (timed_step task steps y) (range_with_len n (length suf))) longer)
    where
      longer : length (pre ++ s ∷ []) ≡ length pre + 1
      longer = length-append pre (s ∷ [])

  pub steps_are : steps_listed task (λ a. zeroℚ) (zip steps times) ≡ map (timed_step task steps y) (numbers (length steps))
  steps_are = listed_is [] steps [] times (λ a. zeroℚ) refl refl refl (λ b i. absurd (never i))
    where
      never : false ≡ true → ⊥
      never c = cc
