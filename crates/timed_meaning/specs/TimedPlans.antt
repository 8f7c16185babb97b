-- Believed: what a timed plan keeps of its lines for the task that it was built for, and what pushing a line answers.
use Rattle.std.specs.Prelude.{ℕ, ◌≡◌, ◌≤◌, [], ◌∷◌, ◌++◌, length, Result, Ok, Err}
use Rattle.std.specs.List.{AllByRecursion}
use Rattle.exact_lin.specs.Reckoning.{wide_limit}
use Rattle.exact_lin.specs.Reckonings.{AreDefined}
use Rattle.task_types.specs.declared.parts.TaskParts.{TaskParts}
use Rattle.task_types.specs.declared.plans.PlanLine.{PlanLine}
use Rattle.task_types.specs.Plan.{Plan, IsFormed}
use Rattle.task_types.specs.Reckoned.{end_reckoned}
use Rattle.timed_meaning.specs.declared.faults.MeaningFault.{MeaningFault}
use Rattle.timed_meaning.specs.declared.faults.MeaningFault.TheVariants.{Wide, Memory}

-- the most lines of a timed plan
abbrev pub line_limit : ℕ
line_limit = 4096

-- The end of a line is defined where its start plus its duration is.
abbrev pub EndIsDefined : PlanLine → Type 0
EndIsDefined l = AreDefined wide_limit (end_reckoned l)

-- A plan is built for a task where each of its lines is formed for it, each end is defined, and the lines aren't too
-- many.
pub record IsBuiltFor (task : TaskParts) (plan : Plan) : Type 0 where
  pub formed : IsFormed task plan
  pub ends : AllByRecursion EndIsDefined plan
  pub few : length plan ≤ line_limit

-- A pushed line stands last; it is refused with its number exactly where its end is undefined, and a plan that refuses
-- a line stays as it was.
abbrev pub Pushes : Result Unit MeaningFault → Plan → Plan → PlanLine → Type 0
Pushes (Ok u) old new l = EndIsDefined l × (new ≡ old ++ l ∷ [])
Pushes (Err (Wide n)) old new l = ¬ EndIsDefined l × (n ≡ l.line) × (new ≡ old)
Pushes (Err Memory) old new l = new ≡ old
