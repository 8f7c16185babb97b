-- Private: what a look-up of an action finds.
use Rattle.std.specs.Prelude.{ℕ, ◌≡◌, ◌&&◌, Bool, true, false, List, Some, None}
use Rattle.std.specs.List.{list_any}
use Rattle.task_types.specs.declared.parts.TaskParts.{TaskParts}
use Rattle.task_types.specs.WellMade.{arguments_fit}
use Rattle.plan_files.specs.declared.names.Found.{Found}
use Rattle.plan_files.specs.declared.names.Found.TheVariants.{Action, Untyped, Unground}
use Rattle.plan_files.specs.Names.{same_word, is_typed, action_with, action_named}

abbrev pub fits_some : TaskParts → List ℕ → List ℕ → Bool
fits_some task name os = list_any (λ s. same_word name s.name && arguments_fit os s.params) task.schemas

abbrev pub FindsWith : TaskParts → List ℕ → List ℕ → Found → Type 0
FindsWith task name os (Action a) = (fits_some task name os ≡ true) × (action_with task name os ≡ Some a)
FindsWith task name os Untyped = fits_some task name os ≡ false
FindsWith task name os Unground = (fits_some task name os ≡ true) × (action_with task name os ≡ None)

abbrev pub Finds : TaskParts → List ℕ → List (List ℕ) → Found → Type 0
Finds task name args (Action a) = (is_typed task name args ≡ true) × (action_named task name args ≡ Some a)
Finds task name args Untyped = is_typed task name args ≡ false
Finds task name args Unground = (is_typed task name args ≡ true) × (action_named task name args ≡ None)
