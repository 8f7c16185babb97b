-- Believed: a list of steps at the times that a point gives them, and what its first steps carry there.
use Rattle.std.specs.Prelude.{ℕ, zero, suc, ◌<◌, ◌≡◌, true, List, [], ◌∷◌, length, take, slice_index}
use Rattle.rational.specs.Rational.{ℚ, zeroℚ, ◌-ℚ◌}
use Rattle.task_types.specs.declared.parts.TaskParts.{TaskParts}
use Rattle.task_types.specs.Plan.{Step}
use Rattle.task_types.specs.Order.{may_follow}
use Rattle.ordering.specs.Along.{Carried, at_first, carry}
use Rattle.rate_ledger.specs.Entries.{snap_at, end_variable, own_start}

-- the duration of the action that a step starts or ends
abbrev pub duration_at : TaskParts → List ℕ → (ℕ → ℚ) → List (ℕ × ℕ) → ℚ
duration_at task steps x [] = zeroℚ
duration_at task steps x (own ∷ rest) = x (end_variable task steps own.0 own.1) -ℚ x own.0

-- step k of the list, at its time
abbrev pub timed_step : TaskParts → List ℕ → (ℕ → ℚ) → ℕ → Step
timed_step task steps x k = record { time = x k; snap = slice_index steps k; duration = duration_at task steps x (own_start task steps k) }

-- what the first n steps carry
abbrev pub carried_by : TaskParts → List ℕ → (ℕ → ℚ) → ℕ → Carried
carried_by task steps x zero = at_first task
carried_by task steps x (suc n) = carry task (carried_by task steps x n) (timed_step task steps x n)

-- each step of a list may follow those before it
abbrev pub Follow : TaskParts → List ℕ → Type 0
Follow task steps = (k : ℕ) → k < length steps → may_follow task (take k steps) (slice_index steps k) (snap_at task steps k).kind ≡ true
