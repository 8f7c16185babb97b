-- Private: the forms of one fluent picked from those that a step assigns or adds.
use Rattle.std.specs.Prelude.{ℕ, ◌≡◌, ◌+◌, ◌==◌, ◌&&◌, Option, Some, None, Bool, true, false, if◌then◌else◌, List, [], ◌∷◌, map, length, take}
use Rattle.std.specs.List.{list_any, AllByRecursion}
use Rattle.rational.specs.Rational.{oneℚ}
use Rattle.exact_lin.specs.Reckoning.{wide_limit}
use Rattle.exact_lin.specs.Forms.{LinearForm, plus_scaled, CanAddScaled}
use Rattle.task_types.specs.declared.conditions.Amount.{Amount}
use Rattle.task_types.specs.declared.parts.TaskParts.{TaskParts}
use Rattle.task_types.specs.declared.actions.SnapKind.{SnapKind}
use Rattle.task_types.specs.Plan.{action_of, snap_of}
use Rattle.task_types.specs.Touch.{is_start_or_end}
use Rattle.task_types.specs.Order.{running}
use Rattle.rate_ledger.specs.declared.list_ledgers.ListLedger.{ListLedger}
use Rattle.rate_ledger.specs.declared.nexts.Next.{Next}
use Rattle.rate_ledger.specs.Sums.{form_of, CanMake}
use Rattle.rate_ledger.specs.Entries.{snap_at, amount_sum, value_before}

-- the last of a fluent's forms, or another where there is none
abbrev pub last_picked : ℕ → LinearForm → List (ℕ × LinearForm) → LinearForm
last_picked f other [] = other
last_picked f other (e ∷ es) = last_picked f (if e.0 == f then e.1 else other) es

-- a form with those of a fluent added
abbrev pub plus_picked : Bool → LinearForm → LinearForm → LinearForm
plus_picked true sum form = plus_scaled sum oneℚ form
plus_picked false sum form = sum

abbrev pub added_picked : ℕ → LinearForm → List (ℕ × LinearForm) → LinearForm
added_picked f sum [] = sum
added_picked f sum (e ∷ es) = added_picked f (plus_picked (e.0 == f) sum e.1) es

abbrev pub CanAddOne : Bool → LinearForm → LinearForm → Type 0
CanAddOne true sum form = CanAddScaled wide_limit sum oneℚ form
CanAddOne false sum form = Unit {0}

abbrev pub CanAddPicked : ℕ → LinearForm → List (ℕ × LinearForm) → Type 0
CanAddPicked f sum [] = Unit {0}
CanAddPicked f sum (e ∷ es) = CanAddOne (e.0 == f) sum e.1 × CanAddPicked f (plus_picked (e.0 == f) sum e.1) es

-- whether a step of an action, where it has one, bends a fluent
abbrev pub bent_for : TaskParts → SnapKind → ℕ → Option ℕ → Bool
bent_for task kind f None = false
bent_for task kind f (Some a) = is_start_or_end kind && list_any (λ r. r.0 == f) (snap_of task (action_of task a).start).rates

-- ---- what is known of the next step

abbrev pub amount_of : TaskParts → List ℕ → ℕ → ℕ × Amount → ℕ × LinearForm
amount_of task steps k e = (e.0, form_of (amount_sum task steps k (value_before task steps k) e.1))

abbrev pub CanMakeAmounts : TaskParts → List ℕ → ℕ → List (ℕ × Amount) → Type 0
CanMakeAmounts task steps k es = AllByRecursion (λ e. CanMake (amount_sum task steps k (value_before task steps k) e.1)) es

-- It is the next step of a ledger, with the amounts of its effects and the actions that run after it.
pub record IsNext (task : TaskParts) (l : ListLedger) (n : Next) : Type 0 where
  pub step : n.step ≡ length l.changes
  pub running : n.running ≡ running task (take (n.step + 1) l.steps)
  pub assigns : n.assigns ≡ map (amount_of task l.steps n.step) (snap_at task l.steps n.step).effect.assigns
  pub increases : n.increases ≡ map (amount_of task l.steps n.step) (snap_at task l.steps n.step).effect.increases
  pub can_assign : CanMakeAmounts task l.steps n.step (snap_at task l.steps n.step).effect.assigns
  pub can_increase : CanMakeAmounts task l.steps n.step (snap_at task l.steps n.step).effect.increases
