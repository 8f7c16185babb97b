-- Believed: timed plans, their lines, their steps and their happenings.
-- A plan stands for its induced simple plan (Fox and Long 2003).
use Rattle.std.specs.Prelude.{ℕ, Bool, ◌&&◌, nat_lt, if◌then◌else◌, IsTrue, List, [], ◌∷◌, ◌++◌, map, length, slice_index_or, Option, Some, None, unwrap_or, is_some, is_none}
use Rattle.std.specs.List.{flat_map, list_all}
use Rattle.std.specs.declared.cmp.Ordering.{Ordering}
use Rattle.std.specs.declared.cmp.Ordering.TheVariants.{Less, Equal, Greater}
use Rattle.rational.specs.Rational.{ℚ, zeroℚ, ◌+ℚ◌, cmp_ℚ}
use Rattle.task_types.specs.declared.parts.TaskParts.{TaskParts}
use Rattle.task_types.specs.declared.plans.PlanLine.{PlanLine}
use Rattle.task_types.specs.declared.actions.Action.{Action}
use Rattle.task_types.specs.declared.actions.Snap.{Snap}
use Rattle.task_types.specs.declared.actions.SnapKind.TheVariants.{Timed}
use Rattle.task_types.specs.Tests.{◌<?◌}

-- what stands where a number is out of range, which no number of a task is
abbrev pub no_action : Action
no_action = record { name = []; args = []; start = 0; end = None; bounds = []; over_all = record { literals = []; comparisons = [] } }

abbrev pub no_snap : Snap
no_snap = record { kind = Timed; action = None; condition = record { literals = []; comparisons = [] }; effect = record { adds = []; deletes = []; assigns = []; increases = [] }; rates = [] }

-- the action of a number, and the snap action of a number
abbrev pub action_of : TaskParts → ℕ → Action
action_of task a = slice_index_or task.actions a no_action

abbrev pub snap_of : TaskParts → ℕ → Snap
snap_of task s = slice_index_or task.snaps s no_snap

-- A timed plan is a list of lines.
abbrev pub Plan : Type 0
Plan = List PlanLine

-- A line is formed where its action is one of the task, and it has a duration exactly where that action is durative.
abbrev pub is_formed : TaskParts → PlanLine → Bool
is_formed task l = nat_lt l.action (length task.actions)
    && (if is_some (action_of task l.action).end then is_some l.duration else is_none l.duration)

-- A plan is formed where each of its lines is.
abbrev pub IsFormed : TaskParts → Plan → Type 0
IsFormed task plan = IsTrue (list_all (is_formed task) plan)

-- A line takes its duration, and no time where it has none.
abbrev pub duration_of : PlanLine → ℚ
duration_of l = unwrap_or l.duration zeroℚ

-- A line ends its duration after its start.
abbrev pub end_of : PlanLine → ℚ
end_of l = l.at +ℚ duration_of l

-- A line runs at the instants strictly between its start and its end.
abbrev pub runs_at : PlanLine → ℚ → Bool
runs_at l t = (l.at <? t) && (t <? end_of l)

-- A step is a snap action at a time; its duration is what `?duration` stands for in it.
pub record Step : Type 0 where
  pub time : ℚ
  pub snap : ℕ
  pub duration : ℚ

-- the end step of a line, where its action has an end
abbrev pub end_step : PlanLine → Option ℕ → List Step
end_step l None = []
end_step l (Some s) = record { time = end_of l; snap = s; duration = duration_of l } ∷ []

-- The steps of a line are its start (or instantaneous action), then its end.
abbrev pub line_steps : TaskParts → PlanLine → List Step
line_steps task l = record { time = l.at; snap = (action_of task l.action).start; duration = duration_of l } ∷ end_step l (action_of task l.action).end

-- The plan steps are those of the lines, line by line.
abbrev pub plan_steps : TaskParts → Plan → List Step
plan_steps task plan = flat_map (line_steps task) plan

-- how many plan steps a plan has
abbrev pub step_count : TaskParts → Plan → ℕ
step_count task plan = length (plan_steps task plan)

-- The timed steps are the task's timed initial literals, one step a moment (Edelkamp and Hoffmann 2004).
abbrev pub timed_steps : TaskParts → List Step
timed_steps task = map (λ t. record { time = t.0; snap = t.1; duration = zeroℚ }) task.timed

-- The steps of a plan are its plan steps and all timed steps, also those after the last plan step.
abbrev pub steps : TaskParts → Plan → List Step
steps task plan = plan_steps task plan ++ timed_steps task

-- a time put in its place among ascending times, once
abbrev pub beside : Ordering → ℚ → ℚ → List ℚ → List ℚ → List ℚ
beside Less t u us rest = t ∷ u ∷ us
beside Equal t u us rest = u ∷ us
beside Greater t u us rest = u ∷ rest

abbrev pub in_place : ℚ → List ℚ → List ℚ
in_place t [] = t ∷ []
in_place t (u ∷ us) = beside (cmp_ℚ t u) t u us (in_place t us)

-- the numbers of a list, each once, ascending
abbrev pub ascending : List ℚ → List ℚ
ascending [] = []
ascending (t ∷ ts) = in_place t (ascending ts)

-- The happenings are the distinct times of the steps, ascending, numbered from 0.
unfoldable pub happenings : TaskParts → Plan → List ℚ
happenings task plan = ascending (map (λ s. s.time) (steps task plan))
