-- Private: what a whole pass answers, and where it ends.
use Rattle.std.specs.Prelude.{ℕ, ◌≡◌, ◌-◌, List, map, Bool, if◌then◌else◌, Option, Some, None, Result, Ok, Err}
use Rattle.exact_lin.specs.Reckoning.{wide_limit}
use Rattle.exact_lin.specs.Reckonings.{Reckoning, Value, AllDefined, IsFirstUndefined}
use Rattle.task_types.specs.declared.parts.Rules.{Rules}
use Rattle.task_types.specs.declared.parts.TaskParts.{TaskParts}
use Rattle.task_types.specs.declared.plans.Reason.{Reason}
use Rattle.task_types.specs.declared.plans.Reason.TheVariants as reason
use Rattle.task_types.specs.Sets.{numbers}
use Rattle.task_types.specs.Plan.{Plan}
use Rattle.task_types.specs.Course.{count, last_state}
use Rattle.task_types.specs.Reckoned.{whole_at}
use Rattle.task_types.specs.Trace.{trace}
use Rattle.timed_meaning.specs.declared.faults.MeaningFault.{MeaningFault}
use Rattle.timed_meaning.specs.declared.faults.MeaningFault.TheVariants.{Wide, Memory}
use Rattle.timed_meaning.specs.Agendas.{AreListed}
use Rattle.timed_meaning.specs.Standings.{shown, IsKept}
use Rattle.plan_validator.specs.declared.watching.Watch.{Watch}
use Rattle.plan_validator.specs.Firsts.{all_noted}
use Rattle.plan_validator.specs.Segments.{over_all_notes}
use Rattle.plan_validator.specs.Following.{AreFollowing}
use Rattle.plan_validator.specs.Watching.{steps_read, HasVisited}

-- all that belongs to the first happenings
abbrev pub course_to : TaskParts → Rules → Plan → ℕ → List (ℕ × List Reckoning)
course_to task rules plan n = map (λ k. (k, whole_at task rules plan k)) (numbers n)

-- A pass has visited its last happening, or met the first place that is undefined.
abbrev pub Passes : Result Unit MeaningFault → TaskParts → Rules → Plan → Watch → ℕ → Type 0
Passes (Ok u) task rules plan w last = AllDefined wide_limit (course_to task rules plan (count task plan)) × HasVisited task rules plan w last
Passes (Err (Wide k)) task rules plan w last = IsFirstUndefined wide_limit (course_to task rules plan (count task plan)) k
Passes (Err Memory) task rules plan w last = Unit {0}

-- It holds the last state, and has noted all that there was to note.
pub record IsDone (task : TaskParts) (rules : Rules) (plan : Plan) (w : Watch) : Type 0 where
  pub kept : IsKept task w.sweep.standing
  pub state : shown w.sweep.standing ≡ last_state task plan
  pub listed : AreListed task plan w.sweep.agenda.owned.items w.sweep.agenda.lines.items
  pub readings : w.readings ≡ steps_read task rules plan w.sweep.agenda.owned.items
  pub over_alls : w.over_alls.place ≡ all_noted None (over_all_notes task plan w.sweep.agenda.lines.items (count task plan - 1))
  pub automata : AreFollowing task.hard w.automata.items (trace task plan)

abbrev pub Watches : Result Watch MeaningFault → TaskParts → Rules → Plan → Type 0
Watches (Ok w) task rules plan = AllDefined wide_limit (course_to task rules plan (count task plan)) × IsDone task rules plan w
Watches (Err (Wide k)) task rules plan = IsFirstUndefined wide_limit (course_to task rules plan (count task plan)) k
Watches (Err Memory) task rules plan = Unit {0}

-- the goal's forms in the last state
abbrev pub goal_reckoned : TaskParts → Plan → List Reckoning
goal_reckoned task plan = map (λ e. Value e (last_state task plan).fluents) task.goal.comparisons

abbrev pub goal_reason : Bool → Option Reason
goal_reason goal = if goal then None else Some reason.Goal
