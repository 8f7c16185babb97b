-- Believed: what is refused is exactly what would not be built, and the states of a plan go by the list of its steps.
use Rattle.std.specs.Prelude.{ℕ, true, ◌≡◌, ◌+◌, ◌⊎◌, ◌↔◌, IsTrue, List, length, None, IsPermutation}
use Rattle.std.specs.List.{filter, AllByRecursion}
use Rattle.rational.specs.Rational.{ℚ, ◌<ℚ◌, ◌≤ℚ◌}
use Rattle.task_types.specs.declared.parts.TaskParts.{TaskParts}
use Rattle.task_types.specs.Tests.{◌<?◌, ◌≤?◌}
use Rattle.task_types.specs.Sets.{are_distinct}
use Rattle.task_types.specs.Plan.{Plan, Step, snap_of, steps}
use Rattle.task_types.specs.Course.{before, after, rate}
use Rattle.task_types.specs.Clash.{assigned_fluents}
use Rattle.task_types.specs.Order.{Order, is_built, IsClosedOrdering}
use Rattle.task_types.specs.WellMade.{IsWellMade}
use Rattle.ordering.specs.Along.{at_time, carried, AllAgree, AreInOrder}
use Rattle.ordering.specs.Orderings.{with_step, with_pair}
use Rattle.ordering.specs.Refusals.{push_refusal, pair_refusal, closing_refusal}

-- A built ordering takes a step, or a pair of numbers from 1 on, exactly where it is built with it, and nothing keeps
-- it from being closed exactly where it is closed.
pub record RefusalsAreExact : Type 0 where
  pub steps : (task : TaskParts) (o : Order) (s : ℕ) → IsTrue (is_built task o) → (push_refusal task o s ≡ None) ↔ IsTrue (is_built task (with_step o s))
  pub pairs : (task : TaskParts) (o : Order) (i j : ℕ) → IsTrue (is_built task o) → (pair_refusal (length o.steps) (i + 1) (j + 1) ≡ None) ↔ IsTrue (is_built task (with_pair o (i + 1) (j + 1)))
  pub closing : (task : TaskParts) (o : Order) → IsTrue (is_built task o) → (closing_refusal task o ≡ None) ↔ IsClosedOrdering task o

-- A list of steps tells of a plan: it has the plan's steps in some order that agrees with their times, no snap
-- action assigns a fluent twice, and the plan's rates are the slopes that the list turns.
pub record Tells (task : TaskParts) (plan : Plan) (ss : List Step) : Type 0 where
  pub same : IsPermutation (steps task plan) ss
  pub agree : AllAgree task ss
  pub distinct : (s : Step) → are_distinct (assigned_fluents (snap_of task s.snap)) ≡ true
  pub rates : (from t : ℚ) (f : ℕ) → from <ℚ t → AllByRecursion (λ s. (s.time ≤ℚ from) ⊎ (t ≤ℚ s.time)) (steps task plan) → rate task plan from t f ≡ (carried task (filter (λ s. s.time ≤? from) ss)).slope f

-- The state before an instant is where the earlier steps, in the order of the list, leave it; the state after it is
-- where the steps up to it do.
pub record StatesGoByTheList : Type 0 where
  pub earlier : (task : TaskParts) (plan : Plan) (ss : List Step) (t : ℚ) → Tells task plan ss → before task plan t ≡ at_time (carried task (filter (λ s. s.time <? t) ss)) t
  pub up_to : (task : TaskParts) (plan : Plan) (ss : List Step) (t : ℚ) → Tells task plan ss → after task plan t ≡ at_time (carried task (filter (λ s. s.time ≤? t) ss)) t

-- Times that agree with what ties the steps of a well made task are enough for the order of the list.
abbrev pub TiesAreEnough : Type 0
TiesAreEnough = (task : TaskParts) (ss : List Step) → IsWellMade task → AreInOrder task ss → AllAgree task ss
