-- Believed: the trace of a plan, and what trajectory constraints ask of it.
-- After Gerevini and Long 2005: the modal operators over a trajectory of states.
use Rattle.std.specs.Prelude.{ℕ, ◌-◌, Bool, false, ◌&&◌, nat_le, List, ◌∷◌, map, length, slice_get, position, Option, Some, None}
use Rattle.std.specs.List.{find}
use Rattle.std.specs.Option.{option_map}
use Rattle.rational.specs.Rational.{ℚ, zeroℚ}
use Rattle.task_types.specs.declared.constraints.Trail.{Trail}
use Rattle.task_types.specs.declared.constraints.TrailKind.{TrailKind}
use Rattle.task_types.specs.declared.constraints.TrailKind.TheVariants.{Always, Sometime, Within, AtMostOnce, SometimeAfter, SometimeBefore, AtEnd}
use Rattle.task_types.specs.declared.formulas.FactTree.{FactTree}
use Rattle.task_types.specs.declared.parts.TaskParts.{TaskParts}
use Rattle.task_types.specs.Tests.{◌≤?◌, every, some, ◌⇒◌}
use Rattle.task_types.specs.Sets.{numbers}
use Rattle.task_types.specs.State.{tree_holds}
use Rattle.task_types.specs.Plan.{Plan}
use Rattle.task_types.specs.Course.{initial, state_after, time_of, count}

-- A moment of a trace has the facts of its state, and the state's time.
pub record Moment : Type 0 where
  pub facts : ℕ → Bool
  pub time : ℚ

abbrev pub Trace : Type 0
Trace = List Moment

-- The trace is the initial state at time 0, then the state after each happening, at its time.
abbrev pub trace : TaskParts → Plan → Trace
trace task plan = record { facts = (initial task).facts; time = zeroℚ }
    ∷ map (λ k. record { facts = (state_after task plan k).facts; time = time_of task plan k }) (numbers (count task plan))

abbrev pub is_some_and : {A : Type 0} → (A → Bool) → Option A → Bool
is_some_and p None = false
is_some_and p (Some x) = p x

-- entry k of a list is there and passes a test
abbrev pub at : {A : Type 0} → List A → ℕ → (A → Bool) → Bool
at xs k p = is_some_and p (slice_get xs k)

-- What a constraint asks of n states, numbered from 0, where a and b tell in which of them its two formulas hold, and
-- soon which of them come no later than its moment:
-- `always`, each state; `sometime`, some state; `within`, some state that comes soon enough;
-- `at-most-once`, that the formula holds in each state between two in which it holds;
-- `sometime-after`, for each state with a one there or later with b; `sometime-before`, for each state with a one
-- strictly earlier with b;
-- `at end`, the last state.
abbrev pub kept : TrailKind → ℕ → (a b soon : ℕ → Bool) → Bool
kept Always n a b soon = every n a
kept Sometime n a b soon = some n a
kept Within n a b soon = some n (λ k. a k && soon k)
kept AtMostOnce n a b soon = every n (λ i. every n (λ j. every n (λ k. nat_le i j && nat_le j k && a i && a k ⇒ a j)))
kept SometimeAfter n a b soon = every n (λ i. a i ⇒ some n (λ j. nat_le i j && b j))
kept SometimeBefore n a b soon = every n (λ i. a i ⇒ some i b)
kept AtEnd n a b soon = a (n - 1)

-- A trace meets a constraint where its states are as the constraint asks.
unfoldable pub met : Trail → Trace → Bool
met c xs = kept c.kind (length xs) (λ k. at xs k (λ m. tree_holds c.first m.facts)) (λ k. at xs k (λ m. tree_holds c.second m.facts)) (λ k. at xs k (λ m. m.time ≤? c.moment))

-- The first state of a formula is the number of the first state of the trace in which it holds; the initial state has
-- number 0.
unfoldable pub first_state : FactTree → Trace → Option ℕ
first_state formula xs = position (λ m. tree_holds formula m.facts) xs

-- The first moment of a formula is the time of the first state of the trace in which it holds.
unfoldable pub first_moment : FactTree → Trace → Option ℚ
first_moment formula xs = option_map (λ m. m.time) (find (λ m. tree_holds formula m.facts) xs)
