-- At a happening the states by time are the states by number; the first moment of a formula is the time of its first
-- state.
use Rattle.std.proofs.Common.{◌≡◌, refl, ap, ◌∙◌, ℕ, zero, suc, ◌<◌, Bool, true, false, cond, List, [], ◌∷◌, length, Some, None}
use Rattle.std.specs.Prelude.{slice_index_or, slice_get, position, option_and_then}
use Rattle.std.specs.List.{find, position_or_len}
use Rattle.std.proofs.Math.Dec.{ltb}
use Rattle.std.proofs.lemmas.Bool.{ltb-false}
use Rattle.std.proofs.lemmas.List.Folds.{find_at}
use Rattle.std.proofs.lemmas.Option.{slice_get_past}
use Rattle.std.specs.Option.{option_map}
use Rattle.rational.specs.Rational.{ℚ, zeroℚ}
use Rattle.task_types.specs.declared.formulas.FactTree.{FactTree}
use Rattle.task_types.specs.declared.parts.TaskParts.{TaskParts}
use Rattle.task_types.specs.State.{tree_holds}
use Rattle.task_types.specs.Plan.{Plan, happenings}
use Rattle.task_types.specs.Course.{before, after, reached, happen, steps_at, time_of, state_before, state_after, count, count_before}
use Rattle.task_types.specs.Trace.{Trace, Moment, first_state, first_moment}
use Rattle.task_types.specs.Laws.{StatesGoByNumber}
use Rattle.task_types.proofs.Comparisons.{not_lt_in, eq_le}
use Rattle.task_types.proofs.Instants.{happenings-Ascends}
use Rattle.task_types.proofs.Segment.{adjacent_ascend}
use Rattle.task_types.proofs.Whole.{before-at}

none_before_first : (ts : List ℚ) → count_before (slice_index_or ts 0 zeroℚ) ts ≡ 0
none_before_first [] = refl
none_before_first (t ∷ ts) = ap (λ b. cond b (suc (count_before t ts)) zero) (not_lt_in t t (eq_le t t refl))

pub before-number : (task : TaskParts) (plan : Plan) (k : ℕ) → k < count task plan → before task plan (time_of task plan k) ≡ state_before task plan k
unfolding before
before-number task plan zero h = ap (λ j. reached task plan j (time_of task plan 0)) (none_before_first (happenings task plan))
before-number task plan (suc k) h = before-at task plan k h (adjacent_ascend (happenings task plan) k (happenings-Ascends task plan) h)

pub after-number : (task : TaskParts) (plan : Plan) (k : ℕ) → k < count task plan → after task plan (time_of task plan k) ≡ state_after task plan k
unfolding after
after-number task plan k h = ap (λ s. happen task (steps_at task plan (time_of task plan k)) s) (before-number task plan k h)

pub states_go_by_number : StatesGoByNumber
states_go_by_number = record { before = before-number; after = after-number }

-- ---- first states

found_first : {X Y : Type 0} (p : X → Bool) (f : X → Y) (xs : List X) → option_map f (find p xs) ≡ option_and_then (λ k. option_map f (slice_get xs k)) (position p xs)
found_first p f xs = ap (option_map f) (find_at p xs) ∙ go (ltb (position_or_len p xs) (length xs)) refl
  where
    go : (b : Bool) → ltb (position_or_len p xs) (length xs) ≡ b → option_map f (slice_get xs (position_or_len p xs)) ≡ option_and_then (λ k. option_map f (slice_get xs k)) (cond b (Some (position_or_len p xs)) None)
    go true e = refl
    go false e = ap (option_map f) (slice_get_past xs (position_or_len p xs) (ltb-false (position_or_len p xs) (length xs) e))

pub moment-first_state : (formula : FactTree) (xs : Trace) → first_moment formula xs ≡ option_and_then (λ k. option_map (λ (m : Moment). m.time) (slice_get xs k)) (first_state formula xs)
unfolding first_moment first_state
moment-first_state formula xs = found_first (λ m. tree_holds formula m.facts) (λ m. m.time) xs
