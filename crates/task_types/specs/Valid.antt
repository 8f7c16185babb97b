-- Believed: valid plans, and the first reason why a plan isn't valid.
-- After Fox and Long 2003: executability and validity of a plan, invariants of durative actions.
use Rattle.std.specs.Prelude.{ℕ, Bool, true, ◌&&◌, ◌||◌, if◌then◌else◌, IsTrue, List, [], ◌∷◌, ◌++◌, map, Option, Some, None}
use Rattle.std.specs.List.{list_all, AllByRecursion, enumerate_from}
use Rattle.rational.specs.Rational.{ℚ, zeroℚ, ◌+ℚ◌, ◌<ℚ◌}
use Rattle.basics.specs.Duties.{Duty, duty, IsFirstUnmet}
use Rattle.task_types.specs.declared.parts.Rules.{Rules}
use Rattle.task_types.specs.declared.actions.Bound.{Bound}
use Rattle.task_types.specs.declared.conditions.Condition.{Condition}
use Rattle.task_types.specs.declared.parts.TaskParts.{TaskParts}
use Rattle.task_types.specs.declared.plans.PlanLine.{PlanLine}
use Rattle.task_types.specs.declared.plans.Reason.{Reason}
use Rattle.task_types.specs.declared.plans.Reason.TheVariants as reason
use Rattle.task_types.specs.Tests.{◌≤?◌, ◌⇒◌}
use Rattle.task_types.specs.State.{value, holds}
use Rattle.task_types.specs.Plan.{Plan, Step, IsFormed, action_of, snap_of, end_of, line_steps, plan_steps, timed_steps, happenings}
use Rattle.task_types.specs.Course.{before, after, last_state}
use Rattle.task_types.specs.Clash.{clash}
use Rattle.task_types.specs.Trace.{trace, met}

-- Rules are positive where the least distance of clashing steps and the horizon are above 0.
pub record ArePositive (rules : Rules) : Type 0 where
  pub epsilon : zeroℚ <ℚ rules.epsilon
  pub horizon : zeroℚ <ℚ rules.horizon

-- First: a line is in time where its start and its end are from 0 to the horizon.
abbrev pub is_in_time : Rules → PlanLine → Bool
is_in_time rules l = (zeroℚ ≤? l.at) && (l.at ≤? rules.horizon) && (zeroℚ ≤? end_of l) && (end_of l ≤? rules.horizon)

-- A duration meets a bound that is read in the state before the start, or before the end where the bound is tagged so.
abbrev pub meets_bound : TaskParts → Plan → PlanLine → ℚ → Bound → Bool
meets_bound task plan l d b =
    let v = value b.form (before task plan (if b.at_end then end_of l else l.at)).fluents in
    if b.at_least then (v ≤? d) else (d ≤? v)

-- Second: a line's duration fits where it is at least epsilon and meets the bounds of its action.
abbrev pub duration_fits : TaskParts → Rules → Plan → PlanLine → Option ℚ → Bool
duration_fits task rules plan l None = true
duration_fits task rules plan l (Some d) = (rules.epsilon ≤? d) && list_all (meets_bound task plan l d) (action_of task l.action).bounds

abbrev pub has_fit_duration : TaskParts → Rules → Plan → PlanLine → Bool
has_fit_duration task rules plan l = duration_fits task rules plan l l.duration

-- Third: two steps are kept apart where they don't clash, or are at least epsilon apart.
abbrev pub are_apart : TaskParts → Rules → Step → Step → Bool
are_apart task rules x y = clash task (snap_of task x.snap) (snap_of task y.snap)
    ⇒ (x.time +ℚ rules.epsilon ≤? y.time) || (y.time +ℚ rules.epsilon ≤? x.time)

-- each step of one list is kept apart from each of another
abbrev pub all_apart : TaskParts → Rules → List Step → List Step → Bool
all_apart task rules xs ys = list_all (λ x. list_all (are_apart task rules x) ys) xs

-- each step of a list is kept apart from each later one
abbrev pub each_apart : TaskParts → Rules → List Step → Bool
each_apart task rules [] = true
each_apart task rules (x ∷ xs) = list_all (are_apart task rules x) xs && each_apart task rules xs

-- The plan steps are kept apart from one another and from the timed steps; two timed steps never clash.
abbrev pub are_kept_apart : TaskParts → Rules → Plan → Bool
are_kept_apart task rules plan = each_apart task rules (plan_steps task plan) && all_apart task rules (plan_steps task plan) (timed_steps task)

-- Fourth: a line can start where the condition of its start, or of its instantaneous action, holds in the state before.
abbrev pub can_start : TaskParts → Plan → PlanLine → Bool
can_start task plan l = holds (snap_of task (action_of task l.action).start).condition (before task plan l.at)

abbrev pub end_holds : TaskParts → Plan → PlanLine → Option ℕ → Bool
end_holds task plan l None = true
end_holds task plan l (Some s) = holds (snap_of task s).condition (before task plan (end_of l))

-- Fifth: it can end where the condition of its end holds in the state before.
abbrev pub can_end : TaskParts → Plan → PlanLine → Bool
can_end task plan l = end_holds task plan l (action_of task l.action).end

-- A condition holds within two times where it holds at every instant strictly between them, and at a happening among
-- these both in the state before and in the state after.
abbrev pub HoldsWithin : TaskParts → Plan → Condition → ℚ → ℚ → Type 0
HoldsWithin task plan c from to = (t : ℚ) → from <ℚ t → t <ℚ to → IsTrue (holds c (before task plan t)) × IsTrue (holds c (after task plan t))

-- Sixth: the over-all condition of a line holds within its start and its end.
abbrev pub HoldsOverAll : TaskParts → Plan → PlanLine → Type 0
HoldsOverAll task plan l = HoldsWithin task plan (action_of task l.action).over_all l.at (end_of l)

-- A plan is valid where it is formed and all eight hold; seventh, the goal holds in the last state, and eighth, the
-- trace meets each hard constraint.
pub record Valid (task : TaskParts) (rules : Rules) (plan : Plan) : Type 0 where
  pub formed : IsFormed task plan
  pub in_time : IsTrue (list_all (is_in_time rules) plan)
  pub durations : IsTrue (list_all (has_fit_duration task rules plan) plan)
  pub apart : IsTrue (are_kept_apart task rules plan)
  pub starts : IsTrue (list_all (can_start task plan) plan)
  pub ends : IsTrue (list_all (can_end task plan) plan)
  pub over_all : AllByRecursion (HoldsOverAll task plan) plan
  pub goal : IsTrue (holds task.goal (last_state task plan))
  pub constraints : IsTrue (list_all (λ c. met c (trace task plan)) task.hard)

-- the clashes of each line: within itself, then with each later line, then with each timed step
abbrev pub clash_duties : TaskParts → Rules → Plan → List (Duty Reason)
clash_duties task rules [] = []
clash_duties task rules (l ∷ ls) = duty (reason.Clash l.line l.line) (each_apart task rules (line_steps task l))
    ∷ map (λ m. duty (reason.Clash l.line m.line) (all_apart task rules (line_steps task l) (line_steps task m))) ls
    ++ map (λ s. duty (reason.ClashTimed l.line s.time) (all_apart task rules (line_steps task l) (s ∷ []))) (timed_steps task)
    ++ clash_duties task rules ls

-- the segments between adjacent times of a list
abbrev pub segments : List ℚ → List (ℚ × ℚ)
segments [] = []
segments (t ∷ []) = []
segments (t ∷ u ∷ us) = (t, u) ∷ segments (u ∷ us)

-- the over-all condition of a line, on each segment between adjacent happenings that lies in the line
abbrev pub line_over_alls : TaskParts → Plan → PlanLine → List (Duty Reason)
line_over_alls task plan l = map (λ g. record { fault = reason.OverAll l.line g.0 g.1; Met = IsTrue ((l.at ≤? g.0) && (g.1 ≤? end_of l)) → HoldsWithin task plan (action_of task l.action).over_all g.0 g.1 }) (segments (happenings task plan))

abbrev pub over_alls : TaskParts → Plan → List PlanLine → List (Duty Reason)
over_alls task plan [] = []
over_alls task plan (l ∷ ls) = line_over_alls task plan l ++ over_alls task plan ls

-- The duties of a formed plan are the eight conditions, each line by line or place by place, in the order in which
-- reasons count.
unfoldable pub duties : TaskParts → Rules → Plan → List (Duty Reason)
duties task rules plan = map (λ l. duty (reason.Time l.line) (is_in_time rules l)) plan
    ++ map (λ l. duty (reason.Duration l.line) (has_fit_duration task rules plan l)) plan
    ++ clash_duties task rules plan
    ++ map (λ l. duty (reason.Start l.line) (can_start task plan l)) plan
    ++ map (λ l. duty (reason.End l.line) (can_end task plan l)) plan
    ++ over_alls task plan plan
    ++ (duty reason.Goal (holds task.goal (last_state task plan)) ∷ [])
    ++ map (λ c. duty (reason.Constraint c.0) (met c.1 (trace task plan))) (enumerate_from 1 task.hard)

-- The first reason why a plan isn't valid is that of its first duty that isn't met.
abbrev pub IsFirstReason : TaskParts → Rules → Plan → Reason → Type 0
IsFirstReason task rules plan r = IsFirstUnmet (duties task rules plan) r
