-- An ordering file that is read line by line: the lines so far have become the ordering so far, and the others are left.
use Rattle.std.proofs.Common.{◌≡◌, refl, sym, subst, ℕ, List, [], ◌∷◌, inl, inr, ⊎_elim}
use Rattle.std.specs.Prelude.{Option, option_map, Result, Ok, Err}
use Rattle.task_types.specs.declared.parts.TaskParts.{TaskParts}
use Rattle.task_types.specs.Order.{IsClosedOrdering}
use Rattle.ordering.specs.declared.faults.OrderFault.{OrderFault}
use Rattle.ordering.specs.declared.faults.OrderFault.TheVariants as order
use Rattle.ordering.specs.declared.orderings.StepOrdering.{StepOrdering}
use Rattle.plan_files.specs.declared.faults.LineKind.{LineKind}
use Rattle.plan_files.specs.declared.faults.LineKind.TheVariants as kind
use Rattle.plan_files.specs.declared.faults.LineFault.{LineFault}
use Rattle.plan_files.specs.declared.faults.LineFault.TheVariants.{At, Memory}
use Rattle.plan_files.specs.declared.order_lines.Put.{Put as PutRead}
use Rattle.plan_files.specs.declared.orders.Begun.{Begun as BegunRead}
use Rattle.plan_files.specs.Lines.{written_lines}
use Rattle.plan_files.specs.OrderFiles.{Puts, Begun, nothing_yet, Becomes, StopsAt, line_of_fault, ReadsOrder}
use Rattle.plan_files.specs.OrderParts.{put_seen, ReadsPutLine, PutsIn, TakesOrder}
use Rattle.plan_files.specs.BegunOrders.{begun_seen, fault_told, Begins, Closes}
use Rattle.plan_files.proofs.Progress.{TextLines}

-- ---- a line
module _ (task : TaskParts) (old new : Begun) (line : ℕ × List ℕ) where
  pub order-unread : (f : LineFault) → ReadsPutLine task line (Err f) → TakesOrder task old new line (Err f)
  order-unread (At n k) h = ⊎_elim (λ a. inl a) (λ b. inr (inl b)) h
  order-unread Memory h = tt

  module _ (p : Option PutRead) (r : ReadsPutLine task line (Ok p)) where
    pub order-taken : (u : Unit {0}) → PutsIn task old new line.0 (option_map put_seen p) (Ok u) → TakesOrder task old new line (Ok u)
    order-taken u h = (h.0, record { words = r.0.0; says = r.0.1; met = r.0.2; puts = subst (Puts task r.0.0) h.1 r.0.3; taken = h.2 }, h.3)

    refused : (f : OrderFault) → (f ≡ order.Memory → ⊥) → PutsIn task old new line.0 (option_map put_seen p) (Err f) → TakesOrder task old new line (Err (At line.0 (kind.Order f)))
    refused f other h = ⊎_elim (λ e. inr (inr (record { words = r.0.0; says = r.0.1; met = r.0.2; put = option_map put_seen p; puts = r.0.3; fault = f; refused = e; told = refl }))) (λ m. absurd (other m)) h

    pub order-refused : (f : OrderFault) → PutsIn task old new line.0 (option_map put_seen p) (Err f) → TakesOrder task old new line (Err (fault_told line.0 f))
    order-refused order.UnknownStep h = refused order.UnknownStep (λ e. cc) h
    order-refused order.Running h = refused order.Running (λ e. cc) h
    order-refused order.EndWithoutStart h = refused order.EndWithoutStart (λ e. cc) h
    order-refused (order.OpenAction k) h = refused (order.OpenAction k) (λ e. cc) h
    order-refused order.TilMissing h = refused order.TilMissing (λ e. cc) h
    order-refused order.TilOrder h = refused order.TilOrder (λ e. cc) h
    order-refused order.Cycle h = refused order.Cycle (λ e. cc) h
    order-refused order.Limit h = refused order.Limit (λ e. cc) h
    order-refused order.Memory h = tt

-- ---- all lines
-- what becomes of the lines that are left becomes of all, and where they stop, all do
pub record Going (task : TaskParts) (all : TextLines) (b : Begun) (left : TextLines) : Type 0 where
  pub becomes : (end : Begun) → Becomes task b left end → Becomes task nothing_yet all end
  pub stops : (f : ℕ × LineKind) → StopsAt task b left f → StopsAt task nothing_yet all f

pub going-begin : (task : TaskParts) (all : TextLines) → Going task all nothing_yet all
going-begin task all = record { becomes = λ end h. h; stops = λ f h. h }

module _ (task : TaskParts) (all : TextLines) (old new : Begun) (line : ℕ × List ℕ) (left : TextLines) (g : Going task all old (line ∷ left)) where
  pub going-next : (u : Unit {0}) → TakesOrder task old new line (Ok u) → Going task all new left
  going-next u t = subst (λ b. Going task all b left) (sym t.2) (record { becomes = λ end h. g.becomes end (t.0, t.1, h); stops = λ f h. g.stops f (inr (t.0, t.1, h)) })

  pub going-stop : (f : LineFault) → TakesOrder task old new line (Err f) → (text : List ℕ) → all ≡ written_lines text → Begins task text (Err f)
  going-stop (At n k) u text e = subst (λ ls. StopsAt task nothing_yet ls (n, k)) e (g.stops (n, k) (inl u))
  going-stop Memory u text e = tt

pub going-end : (task : TaskParts) (all : TextLines) (b : Begun) → Going task all b [] → Becomes task nothing_yet all b
going-end task all b g = g.becomes b refl

-- ---- the whole file
pub order-closed : (task : TaskParts) (text : List ℕ) (b : BegunRead) (r : Result StepOrdering LineFault) → Begins task text (Ok b) → Closes task (begun_seen b) r → ReadsOrder task text r
order-closed task text b (Ok o) h c = record { end = begun_seen b; becomes = h; order = c.0; closed = subst (IsClosedOrdering task) (sym c.0) c.1 }
order-closed task text b (Err (At n k)) h c = inr (record { end = begun_seen b; becomes = h; fault = c.0; lacks = c.1; told = both n (line_of_fault b.lines.items c.0) k (kind.Order c.0) c.2 c.3 })
  where
    both : (m n : ℕ) (j k : LineKind) → m ≡ n → j ≡ k → ◌≡◌ {A = ℕ × LineKind} (m, j) (n, k)
    both m n j k e f = cc
order-closed task text b (Err Memory) h c = tt

pub order-stopped : (task : TaskParts) (text : List ℕ) (f : LineFault) → Begins task text (Err f) → ReadsOrder task text (Err f)
order-stopped task text (At n k) h = inl h
order-stopped task text Memory h = tt
