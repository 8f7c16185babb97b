-- Private: the first duty that isn't met, if there is one, and the first reason of a plan.
use Rattle.std.specs.Prelude.{List, Option, Some, None, Result, Ok, Err}
use Rattle.basics.specs.Duties.{Duty, AllMet, IsFirstUnmet}
use Rattle.exact_lin.specs.Reckoning.{wide_limit}
use Rattle.exact_lin.specs.Reckonings.{AllDefined, IsFirstUndefined}
use Rattle.task_types.specs.declared.parts.Rules.{Rules}
use Rattle.task_types.specs.declared.parts.TaskParts.{TaskParts}
use Rattle.task_types.specs.declared.plans.Reason.{Reason}
use Rattle.task_types.specs.Plan.{Plan}
use Rattle.task_types.specs.Reckoned.{whole_course}
use Rattle.task_types.specs.Valid.{Valid, IsFirstReason}
use Rattle.timed_meaning.specs.declared.faults.MeaningFault.{MeaningFault}
use Rattle.timed_meaning.specs.declared.faults.MeaningFault.TheVariants.{Wide, Memory}

-- All duties are met, or the first that isn't has this fault.
abbrev pub Judged : {F : Type 0} → List (Duty F) → Option F → Type 0
Judged ds None = AllMet ds
Judged ds (Some f) = IsFirstUnmet ds f

abbrev pub first_of : {F : Type 0} → Option F → Option F → Option F
first_of None p = p
first_of (Some f) p = Some f

-- Where the whole course is defined the answer is that the plan is valid, or the first reason why it isn't; else Wide with
-- the first place where something of it isn't.
abbrev pub JudgesPlan : Result (Option Reason) MeaningFault → TaskParts → Rules → Plan → Type 0
JudgesPlan (Ok None) task rules plan = AllDefined wide_limit (whole_course task rules plan) × Valid task rules plan
JudgesPlan (Ok (Some reason)) task rules plan = AllDefined wide_limit (whole_course task rules plan) × IsFirstReason task rules plan reason
JudgesPlan (Err (Wide k)) task rules plan = IsFirstUndefined wide_limit (whole_course task rules plan) k
JudgesPlan (Err Memory) task rules plan = Unit {0}
