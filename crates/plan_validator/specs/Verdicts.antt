-- Believed: what the validation of a plan answers.
use Rattle.std.specs.Prelude.{ℕ, ◌≡◌, ◌⊎◌, Result, Ok, Err}
use Rattle.exact_lin.specs.Reckoning.{wide_limit}
use Rattle.exact_lin.specs.Reckonings.{AllDefined, IsFirstUndefined}
use Rattle.task_types.specs.declared.parts.Rules.{Rules}
use Rattle.task_types.specs.declared.parts.TaskParts.{TaskParts}
use Rattle.task_types.specs.Plan.{Plan}
use Rattle.task_types.specs.Course.{count}
use Rattle.task_types.specs.Cost.{cost}
use Rattle.task_types.specs.Reckoned.{whole_course, cost_reckoned}
use Rattle.task_types.specs.Valid.{Valid, IsFirstReason}
use Rattle.timed_meaning.specs.declared.faults.MeaningFault.{MeaningFault}
use Rattle.timed_meaning.specs.declared.faults.MeaningFault.TheVariants.{Wide, Memory}
use Rattle.timed_meaning.specs.Answers.{Defined}
use Rattle.plan_validator.specs.declared.verdicts.Verdict.{Verdict}
use Rattle.plan_validator.specs.declared.verdicts.Verdict.TheVariants as verdict

-- Something is undefined for the first time at a place: at a happening of the whole course, or at the number of happenings,
-- for a form of the goal, or for what the cost of a valid plan reckons.
abbrev pub IsWideAt : TaskParts → Rules → Plan → ℕ → Type 0
IsWideAt task rules plan k = IsFirstUndefined wide_limit (whole_course task rules plan) k
    ⊎ (AllDefined wide_limit (whole_course task rules plan) × Valid task rules plan × ¬ (Defined (cost_reckoned task plan)) × (k ≡ count task plan))

-- Where the whole course is defined the answer is that the plan is valid, with its cost where that is defined too, or the
-- first reason why it isn't; else Wide with the first place where something isn't.
abbrev pub Validates : Result Verdict MeaningFault → TaskParts → Rules → Plan → Type 0
Validates (Ok (verdict.Valid c)) task rules plan = AllDefined wide_limit (whole_course task rules plan) × Valid task rules plan × Defined (cost_reckoned task plan) × (c ≡ cost task plan)
Validates (Ok (verdict.Invalid reason)) task rules plan = AllDefined wide_limit (whole_course task rules plan) × IsFirstReason task rules plan reason
Validates (Err (Wide k)) task rules plan = IsWideAt task rules plan k
Validates (Err Memory) task rules plan = Unit {0}
