-- Private: an ordering that is begun, as the definitions see it.
use Rattle.std.specs.Prelude.{ℕ, ◌≡◌, List, Some, Result, Ok, Err}
use Rattle.task_types.specs.declared.parts.TaskParts.{TaskParts}
use Rattle.task_types.specs.Order.{IsClosedOrdering}
use Rattle.ordering.specs.declared.faults.OrderFault.{OrderFault}
use Rattle.ordering.specs.declared.faults.OrderFault.TheVariants as order
use Rattle.ordering.specs.declared.orderings.StepOrdering.{StepOrdering}
use Rattle.ordering.specs.Orderings.{order_of}
use Rattle.ordering.specs.Refusals.{closing_refusal}
use Rattle.plan_files.specs.declared.faults.LineKind.TheVariants as kind
use Rattle.plan_files.specs.declared.faults.LineFault.{LineFault}
use Rattle.plan_files.specs.declared.faults.LineFault.TheVariants.{At, Memory}
use Rattle.plan_files.specs.declared.orders.Begun.{Begun as BegunRead}
use Rattle.plan_files.specs.Lines.{written_lines}
use Rattle.plan_files.specs.OrderFiles.{Begun, nothing_yet, Becomes, StopsAt, line_of_fault}

abbrev pub begun_seen : BegunRead → Begun
begun_seen b = record { order = order_of b.order; lines = b.lines.items }

-- want of memory is no fault of the line
abbrev pub fault_told : ℕ → OrderFault → LineFault
fault_told n order.Memory = Memory
fault_told n order.UnknownStep = At n (kind.Order order.UnknownStep)
fault_told n order.Running = At n (kind.Order order.Running)
fault_told n order.EndWithoutStart = At n (kind.Order order.EndWithoutStart)
fault_told n (order.OpenAction k) = At n (kind.Order (order.OpenAction k))
fault_told n order.TilMissing = At n (kind.Order order.TilMissing)
fault_told n order.TilOrder = At n (kind.Order order.TilOrder)
fault_told n order.Cycle = At n (kind.Order order.Cycle)
fault_told n order.Limit = At n (kind.Order order.Limit)

-- all lines are taken, or the first that isn't is refused
abbrev pub Begins : TaskParts → List ℕ → Result BegunRead LineFault → Type 0
Begins task text (Ok b) = Becomes task nothing_yet (written_lines text) (begun_seen b)
Begins task text (Err (At n k)) = StopsAt task nothing_yet (written_lines text) (n, k)
Begins task text (Err Memory) = Unit {0}

-- what was begun is closed, or what keeps it from it
abbrev pub Closes : TaskParts → Begun → Result StepOrdering LineFault → Type 0
Closes task b (Ok o) = (order_of o ≡ b.order) × IsClosedOrdering task b.order
Closes task b (Err (At n k)) = (f : OrderFault) × (closing_refusal task b.order ≡ Some f) × (n ≡ line_of_fault b.lines f) × (k ≡ kind.Order f)
Closes task b (Err Memory) = ⊥
