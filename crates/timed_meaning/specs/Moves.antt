-- Believed: how fluents move: rates gathered into one list, then settled place by place.
use Rattle.std.specs.Prelude.{ℕ, ◌<◌, List, [], ◌∷◌, length, slice_index_or, slice_set}
use Rattle.std.specs.List.{AllByRecursion}
use Rattle.rational.specs.Rational.{ℚ, zeroℚ, ◌+ℚ◌, ◌*ℚ◌}
use Rattle.task_types.specs.declared.parts.TaskParts.{TaskParts}
use Rattle.task_types.specs.declared.plans.PlanLine.{PlanLine}
use Rattle.task_types.specs.Plan.{snap_of, action_of}
use Rattle.exact_lin.specs.Reckonings.{Reckoning, Sum, Product}

-- the rates of a line, each with its fluent
abbrev pub rates_on : TaskParts → PlanLine → List (ℕ × ℚ)
rates_on task l = (snap_of task (action_of task l.action).start).rates

-- each line is of an action of the task
abbrev pub AreLines : TaskParts → List PlanLine → Type 0
AreLines task ls = AllByRecursion (λ l. l.action < length task.actions) ls

-- the values of all fluents, and the rates that are still to be settled
pub record Motion : Type 0 where
  pub values : List ℚ
  pub rates : List ℚ

abbrev pub value_at : Motion → ℕ → ℚ
value_at p f = slice_index_or p.values f zeroℚ

abbrev pub rate_at : Motion → ℕ → ℚ
rate_at p f = slice_index_or p.rates f zeroℚ

-- one fluent settled: it grows by its rate times the elapsed time, and its rate becomes 0
abbrev pub settled_at : ℚ → Motion → ℕ → Motion
settled_at e p f = record { values = slice_set p.values f (value_at p f +ℚ rate_at p f *ℚ e); rates = slice_set p.rates f zeroℚ }

abbrev pub settled : ℚ → Motion → List (ℕ × ℚ) → Motion
settled e p [] = p
settled e p (n ∷ ns) = settled e (settled_at e p n.0) ns

abbrev pub settled_reckoned : ℚ → Motion → List (ℕ × ℚ) → List Reckoning
settled_reckoned e p [] = []
settled_reckoned e p (n ∷ ns) = Product (rate_at p n.0) e ∷ Sum (value_at p n.0) (rate_at p n.0 *ℚ e) ∷ settled_reckoned e (settled_at e p n.0) ns
