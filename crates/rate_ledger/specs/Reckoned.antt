-- Believed: what each step of a list reckons for its value forms, and where all of it is defined.
use Rattle.std.specs.Prelude.{ℕ, suc, if◌then◌else◌, List, [], ◌∷◌, ◌++◌, map, length}
use Rattle.std.specs.List.{filter, flat_map, AllByRecursion}
use Rattle.rational.specs.Rational.{zeroℚ}
use Rattle.exact_lin.specs.Reckoning.{wide_limit}
use Rattle.exact_lin.specs.Reckonings.{Reckoning, sums, IsDefined as IsNumberDefined}
use Rattle.task_types.specs.declared.parts.TaskParts.{TaskParts}
use Rattle.task_types.specs.Sets.{is_in, numbers}
use Rattle.task_types.specs.Touch.{bent_fluents}
use Rattle.ordering.specs.Along.{changes}
use Rattle.rate_ledger.specs.Sums.{FormSum, CanMake}
use Rattle.rate_ledger.specs.Entries.{snap_at, amount_sum, running_rates, value_before, value_after}

-- a form is made, or numbers are added
pub data Made : Type 0 where
  OfForm : (sum : FormSum) → Made
  OfNumbers : (reckoning : Reckoning) → Made

abbrev pub IsDefined : Made → Type 0
IsDefined (OfForm sum) = CanMake sum
IsDefined (OfNumbers reckoning) = IsNumberDefined wide_limit reckoning

-- each of them is defined
abbrev pub AreDefined : List Made → Type 0
AreDefined made = AllByRecursion IsDefined made

-- the new rate of a fluent, where a step changes it
abbrev pub rate_made : TaskParts → List ℕ → ℕ → ℕ → List Made
rate_made task steps k f = if is_in f (bent_fluents task (snap_at task steps k)) then map OfNumbers (sums zeroℚ (running_rates task steps (suc k) f)) else []

-- A fluent that a step changes: its form before, its form after, and its new rate.
abbrev pub change_made : TaskParts → List ℕ → ℕ → ℕ → List Made
change_made task steps k f = OfForm (value_before task steps k f) ∷ OfForm (value_after task steps k f) ∷ rate_made task steps k f

-- Step k makes the amounts of all its effects, also of assignments that don't count, and the forms of each fluent that
-- it changes.
abbrev pub step_made : TaskParts → List ℕ → ℕ → List Made
step_made task steps k =
    let s = snap_at task steps k in
    map (λ e. OfForm (amount_sum task steps k (value_before task steps k) e.1)) (s.effect.assigns ++ s.effect.increases)
    ++ flat_map (change_made task steps k) (filter (changes task s) (numbers (length task.fluents)))
