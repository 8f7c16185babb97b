-- Believed: what a ledger keeps of a list of steps.
use Rattle.std.specs.Prelude.{ℕ, zero, suc, ◌≡◌, ◌<◌, ◌≤◌, ◌==◌, List, [], map, length, take, slice_index_or, Option, Some, None}
use Rattle.std.specs.List.{filter, find, AllByRecursion}
use Rattle.task_types.specs.declared.parts.TaskParts.{TaskParts}
use Rattle.task_types.specs.Sets.{numbers}
use Rattle.task_types.specs.Order.{running}
use Rattle.ordering.specs.Along.{changes}
use Rattle.rate_ledger.specs.declared.changes.Change.{Change}
use Rattle.rate_ledger.specs.declared.ledgers.Ledger.{Ledger}
use Rattle.rate_ledger.specs.declared.list_ledgers.ListLedger.{ListLedger}
use Rattle.rate_ledger.specs.declared.whens.When.{When}
use Rattle.rate_ledger.specs.declared.whens.When.TheVariants.{Before, After, AtEnd}
use Rattle.rate_ledger.specs.Sums.{form_of}
use Rattle.rate_ledger.specs.Entries.{snap_at, changed_entry, entries}
use Rattle.rate_ledger.specs.Reckoned.{AreDefined, step_made}

-- what is kept of a fluent that step k changes
abbrev pub change_at : TaskParts → List ℕ → ℕ → ℕ → Change
change_at task steps k f =
    let e = changed_entry task steps k (entries task steps k) f in
    record { fluent = f; step = k; form = form_of e.form; rate = e.rate }

-- of each fluent that step k changes
abbrev pub changes_at : TaskParts → List ℕ → ℕ → List Change
changes_at task steps k = map (change_at task steps k) (filter (changes task (snap_at task steps k)) (numbers (length task.fluents)))

-- A ledger keeps, of the steps of its list that it has taken, what each changed, and which actions run after them; and
-- which actions run after the whole list. All that those steps reckon is defined.
pub record Keeps (task : TaskParts) (l : ListLedger) : Type 0 where
  pub in_range : AllByRecursion (λ s. s < length task.snaps) l.steps
  pub pending : l.pending ≡ running task l.steps
  pub running : l.running ≡ running task (take (length l.changes) l.steps)
  pub changes : l.changes ≡ map (changes_at task l.steps) (numbers (length l.changes))
  pub within : length l.changes ≤ length l.steps
  pub defined : (k : ℕ) → k < length l.changes → AreDefined (step_made task l.steps k)

-- each step of a list makes only what is defined
abbrev pub AllDefined : TaskParts → List ℕ → Type 0
AllDefined task steps = (k : ℕ) → k < length steps → AreDefined (step_made task steps k)

-- A ledger of a list that grows keeps what one of the whole list keeps, and what each fluent has at first.
pub record IsLedgerOf (task : TaskParts) (l : Ledger) : Type 0 where
  pub keeps : Keeps task l.taken
  pub first : l.first ≡ map (λ f. f.value) task.fluents

-- A value may be asked for before a step that was taken or is the next, after one that was taken, and at the end where
-- all were.
abbrev pub IsTold : When → ListLedger → Type 0
IsTold (Before k) l = k ≤ length l.changes
IsTold (After k) l = k < length l.changes
IsTold AtEnd l = length l.changes ≡ length l.steps

abbrev pub or_earlier : Option Change → Option Change → Option Change
or_earlier None earlier = earlier
or_earlier (Some c) earlier = Some c

-- the last change of a fluent by the first n steps
abbrev pub latest : ℕ → List (List Change) → ℕ → Option Change
latest f rows zero = None
latest f rows (suc n) = or_earlier (find (λ c. c.fluent == f) (slice_index_or rows n [])) (latest f rows n)
