-- Private: answers about rows, told by what is reckoned at each place.
use Rattle.std.specs.Prelude.{ℕ, suc, Result, Ok, Err, List, map}
use Rattle.exact_lin.specs.declared.faults.FormFault.{FormFault}
use Rattle.exact_lin.specs.declared.faults.FormFault.TheVariants as form_fault
use Rattle.task_types.specs.declared.parts.TaskParts.{TaskParts}
use Rattle.task_types.specs.Sets.{numbers}
use Rattle.rate_ledger.specs.Reckoned.{Made}
use Rattle.lp_rows.specs.declared.faults.RowsFault.{RowsFault}
use Rattle.lp_rows.specs.declared.faults.RowsFault.TheVariants.{Blocked, Wide, Memory}
use Rattle.lp_rows.specs.declared.origins.Place.{Place}
use Rattle.lp_rows.specs.declared.origins.Place.TheVariants as place
use Rattle.lp_rows.specs.StepRows.{step_reckoned}
use Rattle.lp_rows.specs.Programs.{AllDefined, IsFirstUndefined}

-- Ok where all is defined at each place, and right; Wide at the first place where not all is.
abbrev pub Tells : {A : Type 0} → Result A RowsFault → List (Place × List Made) → (A → Type 0) → Type 0
Tells (Ok x) places Right = AllDefined places × Right x
Tells (Err (Wide p)) places Right = IsFirstUndefined places p
Tells (Err (Blocked b)) places Right = ⊥
Tells (Err Memory) places Right = Unit {0}

-- the places of the first n steps
abbrev pub step_places : TaskParts → List ℕ → ℕ → List (Place × List Made)
step_places task steps n = map (λ j. (place.Step (suc j), step_reckoned task steps j)) (numbers n)

-- a reckoning that failed at a place
abbrev pub fault_at : FormFault → Place → RowsFault
fault_at form_fault.Wide p = Wide p
fault_at form_fault.Memory p = Memory
