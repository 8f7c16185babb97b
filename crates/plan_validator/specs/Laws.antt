-- Believed: what the answers of a validation imply.
use Rattle.std.specs.Prelude.{◌≡◌, Result, Ok, Err}
use Rattle.task_types.specs.declared.parts.Rules.{Rules}
use Rattle.task_types.specs.declared.parts.TaskParts.{TaskParts}
use Rattle.task_types.specs.Plan.{Plan}
use Rattle.timed_meaning.specs.declared.faults.MeaningFault.{MeaningFault}
use Rattle.timed_meaning.specs.declared.faults.MeaningFault.TheVariants.{Wide, Memory}
use Rattle.plan_validator.specs.declared.verdicts.Verdict.{Verdict}
use Rattle.plan_validator.specs.Verdicts.{Validates}

-- it isn't that memory ran out
abbrev pub IsAnswer : Result Verdict MeaningFault → Type 0
IsAnswer (Ok v) = Unit {0}
IsAnswer (Err (Wide k)) = Unit {0}
IsAnswer (Err Memory) = ⊥

-- A task, rules and a plan have one right answer at most.
abbrev pub OneAnswer : Type 0
OneAnswer = (task : TaskParts) (rules : Rules) (plan : Plan) (r s : Result Verdict MeaningFault) → IsAnswer r → IsAnswer s → Validates r task rules plan → Validates s task rules plan → r ≡ s
