-- What a pass notes at a happening, in what it has noted so far.
use Rattle.std.proofs.Common.{◌≡◌, refl, sym, ap, subst, ◌∙◌, ℕ, zero, suc, ◌+◌, ◌<◌, Bool, true, false, cond, List, [], ◌∷◌, ◌++◌, length, map, append_assoc, add-one}
use Rattle.std.specs.Prelude.{Option, None}
use Rattle.std.specs.List.{AllByRecursion, filter, flat_map, range_with_len}
use Rattle.std.proofs.lemmas.List.{map-append, append-nil, length-map}
use Rattle.std.proofs.lemmas.List.Concat.{flat_map-append}
use Rattle.rational.specs.Rational.{ℚ, zeroℚ}
use Rattle.task_types.specs.Trace.{Trace}
use Rattle.task_types.specs.declared.parts.Rules.{Rules}
use Rattle.task_types.specs.declared.parts.TaskParts.{TaskParts}
use Rattle.task_types.specs.Tests.{◌=?◌}
use Rattle.task_types.specs.Sets.{numbers}
use Rattle.task_types.specs.State.{State}
use Rattle.task_types.specs.Plan.{Plan, Step, steps}
use Rattle.task_types.specs.Course.{initial, before, count, time_of, steps_at, state_before}
use Rattle.task_types.proofs.Comparisons.{eq_out}
use Rattle.task_types.proofs.ByNumber.{before-number}
use Rattle.task_types.proofs.Places.{numbers-more, map-numbers-more}
use Rattle.timed_meaning.specs.declared.steps.OwnedStep.{OwnedStep}
use Rattle.timed_meaning.specs.declared.placing.PlacedLine.{PlacedLine}
use Rattle.timed_meaning.specs.Owned.{steps_of}
use Rattle.plan_validator.specs.declared.readings.Readings.{Readings}
use Rattle.plan_validator.specs.Firsts.{Place, Note, noted, all_noted}
use Rattle.plan_validator.specs.Readings.{with_step, with_steps}
use Rattle.plan_validator.specs.Segments.{segment_notes, over_all_notes}
use Rattle.plan_validator.specs.Watching.{fits_test, start_test, end_test, step_note, steps_read, trace_to, moment_after}

pub all_noted-append : (o : Option Place) (xs ys : List Note) → all_noted o (xs ++ ys) ≡ all_noted (all_noted o xs) ys
all_noted-append o [] ys = refl
all_noted-append o (x ∷ xs) ys = all_noted-append (noted o x) xs ys

noted-put : {X : Type 0} (f : X → Note) (xs : List X) (x : X) → noted (all_noted None (map f xs)) (f x) ≡ all_noted None (map f (xs ++ x ∷ []))
noted-put f xs x = sym (ap (all_noted None) (map-append f xs (x ∷ [])) ∙ all_noted-append None (map f xs) (f x ∷ []))

-- the steps at a time have it
at_its_time : (t : ℚ) (xs : List Step) → AllByRecursion (λ s. s.time ≡ t) (filter (λ s. s.time =? t) xs)
at_its_time t [] = tt
at_its_time t (x ∷ xs) = go (x.time =? t) refl (at_its_time t xs)
  where
    go : (b : Bool) → (x.time =? t) ≡ b → AllByRecursion (λ s. s.time ≡ t) (filter (λ s. s.time =? t) xs) → AllByRecursion (λ s. s.time ≡ t) (cond b (x ∷ filter (λ s. s.time =? t) xs) (filter (λ s. s.time =? t) xs))
    go true e r = (eq_out x.time t e, r)
    go false e r = r

module _ (task : TaskParts) (rules : Rules) (plan : Plan) where
  one-read : (s : State) (xs : List OwnedStep) (o : OwnedStep) → s ≡ before task plan o.step.time → with_step task rules s (steps_read task rules plan xs) o ≡ steps_read task rules plan (xs ++ o ∷ [])
  one-read s xs o e = ap (λ u. with_step task rules u (steps_read task rules plan xs) o) e
      ∙ ap (λ p. let r : Readings = record { durations = record { place = p }; starts = record { place = noted (all_noted None (map (step_note (start_test task plan)) xs)) (step_note (start_test task plan) o) }; ends = record { place = noted (all_noted None (map (step_note (end_test task plan)) xs)) (step_note (end_test task plan) o) } } in r) (noted-put (step_note (fits_test task rules plan)) xs o)
      ∙ ap (λ p. let r : Readings = record { durations = record { place = all_noted None (map (step_note (fits_test task rules plan)) (xs ++ o ∷ [])) }; starts = record { place = p }; ends = record { place = noted (all_noted None (map (step_note (end_test task plan)) xs)) (step_note (end_test task plan) o) } } in r) (noted-put (step_note (start_test task plan)) xs o)
      ∙ ap (λ p. let r : Readings = record { durations = record { place = all_noted None (map (step_note (fits_test task rules plan)) (xs ++ o ∷ [])) }; starts = record { place = all_noted None (map (step_note (start_test task plan)) (xs ++ o ∷ [])) }; ends = record { place = p } } in r) (noted-put (step_note (end_test task plan)) xs o)

  all-read : (s : State) (xs here : List OwnedStep) → AllByRecursion (λ (t : Step). s ≡ before task plan t.time) (steps_of here) → with_steps task rules s (steps_read task rules plan xs) here ≡ steps_read task rules plan (xs ++ here)
  all-read s xs [] h = ap (steps_read task rules plan) (sym (append-nil xs))
  all-read s xs (o ∷ os) h = ap (λ n. with_steps task rules s n os) (one-read s xs o h.0) ∙ all-read s (xs ++ o ∷ []) os h.1 ∙ ap (steps_read task rules plan) (append_assoc xs (o ∷ []) os)

  -- what the steps of happening k read in the state before it
  pub here-read : (k : ℕ) → k < count task plan → (xs here : List OwnedStep) → steps_of here ≡ steps_at task plan (time_of task plan k)
      → with_steps task rules (state_before task plan k) (steps_read task rules plan xs) here ≡ steps_read task rules plan (xs ++ here)
  here-read k h xs here e = all-read (state_before task plan k) xs here (subst (AllByRecursion (λ (t : Step). state_before task plan k ≡ before task plan t.time)) (sym e) (each (steps_at task plan (time_of task plan k)) (at_its_time (time_of task plan k) (steps task plan))))
    where
      each : (ss : List Step) → AllByRecursion (λ s. s.time ≡ time_of task plan k) ss → AllByRecursion (λ (t : Step). state_before task plan k ≡ before task plan t.time) ss
      each [] a = tt
      each (s ∷ ss) a = (sym (before-number task plan k h) ∙ ap (before task plan) (sym a.0), each ss a.1)

  -- ---- one segment, and one state, more

  pub segments-more : (lines : List PlacedLine) (k : ℕ) → all_noted (all_noted None (over_all_notes task plan lines k)) (segment_notes task plan lines k) ≡ all_noted None (over_all_notes task plan lines (suc k))
  segments-more lines k = sym (ap (λ n. all_noted None (flat_map (segment_notes task plan lines) n)) (ap numbers (sym (add-one k)) ∙ numbers-more k)
      ∙ ap (all_noted None) (flat_map-append (segment_notes task plan lines) (numbers k) (k ∷ []) ∙ ap (λ l. over_all_notes task plan lines k ++ l) (append-nil (segment_notes task plan lines k)))
      ∙ all_noted-append None (over_all_notes task plan lines k) (segment_notes task plan lines k))

  pub trace-more : (k : ℕ) → trace_to task plan k ++ moment_after task plan k ∷ [] ≡ trace_to task plan (suc k)
  trace-more k = sym (ap (λ (l : Trace). record { facts = (initial task).facts; time = zeroℚ } ∷ l) (ap (λ n. map (moment_after task plan) (numbers n)) (sym (add-one k)) ∙ map-numbers-more (moment_after task plan) k))

  pub length-trace : (k : ℕ) → length (trace_to task plan k) ≡ suc k
  length-trace k = ap suc (length-map (numbers k) (moment_after task plan) ∙ length-numbers 0 k)
    where
      length-numbers : (a n : ℕ) → length (range_with_len a n) ≡ n
      length-numbers a zero = refl
      length-numbers a (suc n) = ap suc (length-numbers (a + 1) n)
