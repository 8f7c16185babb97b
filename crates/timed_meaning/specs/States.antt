-- Believed: what a call that tells a state of a timed plan answers.
use Rattle.std.specs.Prelude.{ℕ, ◌≡◌, List, length, Result, Ok, Err}
use Rattle.exact_lin.specs.Reckoning.{wide_limit}
use Rattle.exact_lin.specs.Reckonings.{Reckoning, AllDefined, IsFirstUndefined}
use Rattle.task_types.specs.declared.parts.TaskParts.{TaskParts}
use Rattle.task_types.specs.State as meaning
use Rattle.task_types.specs.Plan.{Plan}
use Rattle.task_types.specs.Reckoned.{course_before}
use Rattle.timed_meaning.specs.declared.faults.MeaningFault.{MeaningFault}
use Rattle.timed_meaning.specs.declared.faults.MeaningFault.TheVariants.{Wide, Memory}
use Rattle.timed_meaning.specs.declared.states.State.{State}
use Rattle.timed_meaning.specs.declared.sweeps.Sweep.{Sweep}
use Rattle.timed_meaning.specs.Answers.{told}
use Rattle.timed_meaning.specs.Sweeps.{IsBefore}

-- A state of a task is shown where its lists have the lengths of the task and tell it.
pub record Shows (task : TaskParts) (s : State) (meant : meaning.State) : Type 0 where
  pub facts : length s.facts.items ≡ length task.facts
  pub fluents : length s.fluents.items ≡ length task.fluents
  pub state : told s.facts.items s.fluents.items ≡ meant

-- The answer is the state that is meant where the whole course up to it is defined, and Wide with the first place of the
-- course at which something isn't.
abbrev pub Gives : Result State MeaningFault → TaskParts → List (ℕ × List Reckoning) → meaning.State → Type 0
Gives (Ok s) task course meant = AllDefined wide_limit course × Shows task s meant
Gives (Err (Wide k)) task course meant = IsFirstUndefined wide_limit course k
Gives (Err Memory) task course meant = Unit {0}

-- A sweep stands before happening k, the course up to it being defined; or Wide with the first place where it isn't.
abbrev pub Reaches : Result Sweep MeaningFault → TaskParts → Plan → ℕ → Type 0
Reaches (Ok s) task plan k = AllDefined wide_limit (course_before task plan k) × IsBefore task plan s × (s.agenda.place ≡ k)
Reaches (Err (Wide j)) task plan k = IsFirstUndefined wide_limit (course_before task plan k) j
Reaches (Err Memory) task plan k = Unit {0}
