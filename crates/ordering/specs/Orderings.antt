-- Believed: what a built ordering stands for, and that it was built over a task.
use Rattle.std.specs.Prelude.{ℕ, ◌≡◌, ◌-◌, nat_lt, IsTrue, [], ◌∷◌, ◌++◌, length}
use Rattle.std.specs.List.{list_all}
use Rattle.task_types.specs.declared.parts.TaskParts.{TaskParts}
use Rattle.task_types.specs.Order.{Order, is_built, running, plan_step_count, timed_count}
use Rattle.ordering.specs.declared.orderings.StepOrdering.{StepOrdering}

-- An ordering stands for its steps and its extra pairs.
abbrev pub order_of : StepOrdering → Order
order_of o = record { steps = o.steps; extra = o.extra }

abbrev pub no_steps : Order
no_steps = record { steps = []; extra = [] }

-- an ordering with one more step at its end
abbrev pub with_step : Order → ℕ → Order
with_step o s = record { steps = o.steps ++ s ∷ []; extra = o.extra }

-- an ordering with one more extra pair, whose numbers count from 1
abbrev pub with_pair : Order → ℕ → ℕ → Order
with_pair o first second = record { steps = o.steps; extra = o.extra ++ (first - 1, second - 1) ∷ [] }

-- An ordering was built over a task where it is built by the task's definitions, its steps are snap actions of the
-- task, and it knows which actions run after its steps, how many plan steps it has, and how many timed steps.
pub record BuiltOver (task : TaskParts) (o : StepOrdering) : Type 0 where
  pub built : IsTrue (is_built task (order_of o))
  pub in_range : IsTrue (list_all (λ s. nat_lt s (length task.snaps)) o.steps)
  pub running : o.running ≡ running task o.steps
  pub plan_steps : o.plan_steps ≡ plan_step_count task o.steps
  pub timed_steps : o.timed_steps ≡ timed_count task o.steps
