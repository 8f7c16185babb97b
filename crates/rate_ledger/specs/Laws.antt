-- Believed: what value forms come to at a point, and that at times that agree with an ordering they are the values of
-- fluents in the states of its timed plan.
use Rattle.std.specs.Prelude.{ℕ, suc, ◌<◌, ◌≤◌, ◌≡◌, ◌⊎◌, true, false, IsTrue, List, length, Contains}
use Rattle.rational.specs.Rational.{ℚ}
use Rattle.exact_lin.specs.Forms.{values_of}
use Rattle.task_types.specs.declared.parts.Rules.{Rules}
use Rattle.task_types.specs.declared.parts.TaskParts.{TaskParts}
use Rattle.task_types.specs.declared.tokens.Token.{Token}
use Rattle.task_types.specs.State.{State}
use Rattle.task_types.specs.Tests.{total}
use Rattle.task_types.specs.Course.{before, after, last_state}
use Rattle.task_types.specs.Touch.{marks, bends, tokens}
use Rattle.task_types.specs.Order.{Order, IsClosedOrdering}
use Rattle.task_types.specs.Agreement.{agree, time_at, plan_of}
use Rattle.task_types.specs.Valid.{ArePositive}
use Rattle.task_types.specs.WellMade.{IsWellMade}
use Rattle.ordering.specs.Along.{at_time}
use Rattle.rate_ledger.specs.Sums.{sum_at}
use Rattle.rate_ledger.specs.Entries.{snap_at, running_rates, entries, value_before, value_after, value_end}
use Rattle.rate_ledger.specs.Carrying.{carried_by, Follow}
use Rattle.rate_ledger.specs.Sights.{covers, Sees}

-- At any point the value forms of a step are what the list carries to the step's time there, before the step and after
-- it; and the rate of a fluent after some steps is the sum of its rates of the actions that run then.
pub record ValueFormsAreValues : Type 0 where
  pub before : (task : TaskParts) (steps : List ℕ) (x : ℕ → ℚ) (k f : ℕ) → Follow task steps → k < length steps → sum_at (value_before task steps k f) x ≡ (at_time (carried_by task steps x k) (x k)).fluents f
  pub after : (task : TaskParts) (steps : List ℕ) (x : ℕ → ℚ) (k f : ℕ) → Follow task steps → k < length steps → sum_at (value_after task steps k f) x ≡ (at_time (carried_by task steps x (suc k)) (x k)).fluents f
  pub rate : (task : TaskParts) (steps : List ℕ) (k f : ℕ) → Follow task steps → k ≤ length steps → (entries task steps k f).rate ≡ total (running_rates task steps k f)

-- Times agree with a closed ordering of a well made task.
pub record AreInTime (task : TaskParts) (rules : Rules) (o : Order) (times : List ℚ) : Type 0 where
  pub well_made : IsWellMade task
  pub positive : ArePositive rules
  pub closed : IsClosedOrdering task o
  pub agreeing : IsTrue (agree task rules o times)

-- The forms of a fluent before and after a step both come to its value in one state.
pub record AreBoth (task : TaskParts) (o : Order) (times : List ℚ) (k f : ℕ) (s : State) : Type 0 where
  pub before : sum_at (value_before task o.steps k f) (values_of times) ≡ s.fluents f
  pub after : sum_at (value_after task o.steps k f) (values_of times) ≡ s.fluents f

-- Then the form before a step that sees a fluent is what the fluent is in the state before the step's time, and the form
-- after it what the fluent is in the state after. A step that bends a token and doesn't mark it finds all fluents of the
-- token, before it and after it, as they are in one state, that before its time or that after it. The form of any fluent
-- at the end is what it is in the last state.
pub record ValueFormsAreStates : Type 0 where
  pub seen_before : (task : TaskParts) (rules : Rules) (o : Order) (times : List ℚ) (k f : ℕ) → AreInTime task rules o times → k < length o.steps → Sees task (snap_at task o.steps k) f
      → sum_at (value_before task o.steps k f) (values_of times) ≡ (before task (plan_of task o times) (time_at times k)).fluents f
  pub seen_after : (task : TaskParts) (rules : Rules) (o : Order) (times : List ℚ) (k f : ℕ) → AreInTime task rules o times → k < length o.steps → Sees task (snap_at task o.steps k) f
      → sum_at (value_after task o.steps k f) (values_of times) ≡ (after task (plan_of task o times) (time_at times k)).fluents f
  pub bent : (task : TaskParts) (rules : Rules) (o : Order) (times : List ℚ) (k : ℕ) (t : Token) → AreInTime task rules o times → k < length o.steps → Contains (tokens task) t
      → bends task (snap_at task o.steps k) t ≡ true → marks task (snap_at task o.steps k) t ≡ false
      → ((f : ℕ) → covers f t ≡ true → AreBoth task o times k f (before task (plan_of task o times) (time_at times k)))
      ⊎ ((f : ℕ) → covers f t ≡ true → AreBoth task o times k f (after task (plan_of task o times) (time_at times k)))
  pub last : (task : TaskParts) (rules : Rules) (o : Order) (times : List ℚ) (f : ℕ) → AreInTime task rules o times
      → sum_at (value_end task o.steps f) (values_of times) ≡ (last_state task (plan_of task o times)).fluents f
