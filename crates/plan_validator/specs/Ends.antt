-- Private: over-all conditions asked at the ends of segments.
use Rattle.std.specs.Prelude.{ℕ, suc, ◌-◌, Bool, ◌&&◌, List, [], ◌∷◌, ◌++◌, map}
use Rattle.basics.specs.Duties.{Duty, duty}
use Rattle.task_types.specs.declared.parts.TaskParts.{TaskParts}
use Rattle.task_types.specs.declared.plans.PlanLine.{PlanLine}
use Rattle.task_types.specs.declared.plans.Reason.{Reason}
use Rattle.task_types.specs.declared.plans.Reason.TheVariants as reason
use Rattle.task_types.specs.Tests.{◌⇒◌}
use Rattle.task_types.specs.Sets.{numbers}
use Rattle.task_types.specs.State.{holds}
use Rattle.task_types.specs.Plan.{Plan, action_of}
use Rattle.task_types.specs.Course.{time_of, count, state_after, state_before, runs_between}

-- the over-all condition of a line at both ends of segment k
abbrev pub holds_at_ends : TaskParts → Plan → PlanLine → ℕ → Bool
holds_at_ends task plan l k = holds (action_of task l.action).over_all (state_after task plan k) && holds (action_of task l.action).over_all (state_before task plan (suc k))

-- the same, asked where the line runs there
abbrev pub segment_test : TaskParts → Plan → PlanLine → ℕ → Bool
segment_test task plan l k = runs_between (time_of task plan k) (time_of task plan (suc k)) l ⇒ holds_at_ends task plan l k

abbrev pub over_all_reason : TaskParts → Plan → PlanLine → ℕ → Reason
over_all_reason task plan l k = reason.OverAll l.line (time_of task plan k) (time_of task plan (suc k))

-- one duty for each segment
abbrev pub over_all_tests : TaskParts → Plan → PlanLine → List (Duty Reason)
over_all_tests task plan l = map (λ k. duty (over_all_reason task plan l k) (segment_test task plan l k)) (numbers (count task plan - 1))

abbrev pub all_over_all_tests : TaskParts → Plan → List PlanLine → List (Duty Reason)
all_over_all_tests task plan [] = []
all_over_all_tests task plan (l ∷ ls) = over_all_tests task plan l ++ all_over_all_tests task plan ls
