-- The times of a plan's trace never fall where no step comes before time 0.
use Rattle.std.proofs.Common.{◌≡◌, sym, ap, subst, ℕ, zero, suc, ◌<◌, List, [], ◌∷◌, map, length, get_or, arith}
use Rattle.std.specs.Prelude.{slice_index_or}
use Rattle.std.specs.List.{All}
use Rattle.std.proofs.lemmas.List.FromFn.{get_or-map-range_with_len, length-map-range_with_len}
use Rattle.std.proofs.lemmas.List.Elements.{All-from_recursion, All-map, All-contains, Contains-get_or}
use Rattle.rational.specs.Rational.{ℚ, zeroℚ, ◌≤ℚ◌, ◌<ℚ◌}
use Rattle.rational.proofs.Order.{lt_le}
use Rattle.task_types.specs.declared.parts.TaskParts.{TaskParts}
use Rattle.task_types.specs.Sets.{numbers}
use Rattle.task_types.specs.Plan.{Plan, Step, steps, happenings}
use Rattle.task_types.specs.Course.{state_after, time_of, count}
use Rattle.task_types.specs.Trace.{Trace, Moment, trace}
use Rattle.task_types.specs.Laws.{Ascends}
use Rattle.task_types.proofs.Happenings.{one_list}
use Rattle.trajectory.specs.Laws.{NeverFall}

ordered : (ts : List ℚ) (i j : ℕ) → Ascends ts → i < j → j < length ts → slice_index_or ts i zeroℚ ≤ℚ slice_index_or ts j zeroℚ
ordered [] i j a l h = absurd (omega arith)
ordered (t ∷ ts) i zero a l h = absurd (omega arith)
ordered (t ∷ ts) zero (suc j) a l h = lt_le t (slice_index_or ts j zeroℚ) (All-from_recursion (λ u. t <ℚ u) ts a.0 j zeroℚ (omega arith))
ordered (t ∷ ts) (suc i) (suc j) a l h = ordered ts i j a.1 (omega arith) (omega arith)

module _ (task : TaskParts) (plan : Plan) (h : All (λ (s : Step). zeroℚ ≤ℚ s.time) (steps task plan)) where
  not_negative : (j : ℕ) → j < count task plan → zeroℚ ≤ℚ time_of task plan j
  not_negative j l = All-contains (λ t. zeroℚ ≤ℚ t) (map (λ (s : Step). s.time) (steps task plan)) (time_of task plan j) (All-map (λ t. zeroℚ ≤ℚ t) (λ (s : Step). s.time) (steps task plan) h)
      ((one_list.has_times task plan).no_other (time_of task plan j) (Contains-get_or (happenings task plan) j zeroℚ l))

  abbrev after_happening : ℕ → Moment
  after_happening k = record { facts = (state_after task plan k).facts; time = time_of task plan k }

  abbrev later : Trace
  later = map after_happening (numbers (count task plan))

  time_later : (k : ℕ) (d : Moment) → k < count task plan → (get_or later k d).time ≡ time_of task plan k
  time_later k d l = ap (λ (m : Moment). m.time) (get_or-map-range_with_len after_happening 0 (count task plan) k k d l (omega arith))

  pub trace-NeverFall : NeverFall (trace task plan)
  trace-NeverFall i j d l k = go i j l k
    where
      go : (i j : ℕ) → i < j → j < length (trace task plan) → (get_or (trace task plan) i d).time ≤ℚ (get_or (trace task plan) j d).time
      go i zero l k = absurd (omega arith)
      go zero (suc j) l k = let within : j < count task plan = omega (arith, length-map-range_with_len after_happening 0 (count task plan)) in
          subst (λ t. zeroℚ ≤ℚ t) (sym (time_later j d within)) (not_negative j within)
      go (suc i) (suc j) l k = let within : j < count task plan = omega (arith, length-map-range_with_len after_happening 0 (count task plan)) in
          let before : i < count task plan = omega arith in
          subst (λ t. t ≤ℚ (get_or later j d).time) (sym (time_later i d before)) (subst (λ t. time_of task plan i ≤ℚ t) (sym (time_later j d within)) (ordered (happenings task plan) i j (one_list.has_times task plan).ascends (omega arith) within))
