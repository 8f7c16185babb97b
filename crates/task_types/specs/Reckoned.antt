-- Believed: the sums, products and values that are reckoned for a plan, by the happening to which they belong.
-- Nothing that says what a plan means cites this file.
-- Where all of them are defined, and which place is the first where one isn't, exact_lin says of any list of places
-- (`AllDefined` and `IsFirstUndefined` at `wide_limit`), with the law that there is one answer.
use Rattle.std.specs.Prelude.{ℕ, zero, suc, ◌+◌, cond, ◌||◌, nat_lt, if◌then◌else◌, List, [], ◌∷◌, ◌++◌, map, length, Option, Some, None, option_to_list}
use Rattle.std.specs.List.{flat_map, filter}
use Rattle.rational.specs.Rational.{ℚ, zeroℚ, ◌*ℚ◌, ◌-ℚ◌, neg_ℚ, inverse}
use Rattle.exact_lin.specs.Reckonings.{Reckoning, Sum, Product, Value, sums}
use Rattle.task_types.specs.declared.conditions.Amount.{Amount}
use Rattle.task_types.specs.declared.costs.LateCost.{LateCost}
use Rattle.task_types.specs.declared.costs.Piece.{Piece}
use Rattle.task_types.specs.declared.costs.Soft.{Soft}
use Rattle.task_types.specs.declared.costs.Soft.TheVariants as soft
use Rattle.task_types.specs.declared.parts.Rules.{Rules}
use Rattle.task_types.specs.declared.parts.TaskParts.{TaskParts}
use Rattle.task_types.specs.declared.plans.PlanLine.{PlanLine}
use Rattle.task_types.specs.Tests.{◌≤?◌, last_or_else}
use Rattle.task_types.specs.Sets.{numbers}
use Rattle.task_types.specs.State.{State, value}
use Rattle.task_types.specs.Plan.{Plan, Step, snap_of, action_of}
use Rattle.task_types.specs.Course.{effect_of, assigned, increased, rates_of, runs_between, rate, time_of, steps_at, state_before, state_after, count, last_state, passed}
use Rattle.task_types.specs.Clash.{read_bounds}
use Rattle.task_types.specs.Trace.{Trace, trace, first_moment}
use Rattle.task_types.specs.Cost.{late_value, pieces_value, soft_cost, total_time}

-- The end of a line is reckoned as its start plus its duration, where it has one.
abbrev pub end_reckoned : PlanLine → List Reckoning
end_reckoned l = map (λ d. Sum l.at d) (option_to_list l.duration)

-- The lines of a plan go by their numbers in the text.
abbrev pub lines_reckoned : Plan → List (ℕ × List Reckoning)
lines_reckoned plan = map (λ l. (l.line, end_reckoned l)) plan

-- An amount is reckoned as its form, its factor times the duration, and their sum.
abbrev pub amount_reckoned : Step → State → Amount → List Reckoning
amount_reckoned step s a = Value a.form s.fluents ∷ Product a.duration step.duration ∷ Sum (value a.form s.fluents) (a.duration *ℚ step.duration) ∷ []

-- The forms that a step reads are those of its condition and of the duration bounds read there.
abbrev pub read_reckoned : TaskParts → State → Step → List Reckoning
read_reckoned task s step = map (λ e. Value e s.fluents) (snap_of task step.snap).condition.comparisons
    ++ map (λ b. Value b.form s.fluents) (read_bounds task (snap_of task step.snap))

-- the amounts of a step's effects, also of assignments that don't count
abbrev pub amounts_reckoned : TaskParts → State → Step → List Reckoning
amounts_reckoned task s step = flat_map (λ e. amount_reckoned step s e.1) ((effect_of task step).assigns ++ (effect_of task step).increases)

abbrev pub fluent_numbers : TaskParts → List ℕ
fluent_numbers task = numbers (length task.fluents)

-- what a fluent has before the increases of a happening: its last assignment, or its value before
abbrev pub assigned_value : TaskParts → List Step → State → ℕ → ℚ
assigned_value task here s f = last_or_else (s.fluents f) (assigned task here s f)

-- The effects of a happening are reckoned as their amounts, then for each fluent the increases one by one.
abbrev pub effects_reckoned : TaskParts → List Step → State → List Reckoning
effects_reckoned task here s = flat_map (amounts_reckoned task s) here
    ++ flat_map (λ f. sums (assigned_value task here s f) (increased task here s f)) (fluent_numbers task)

-- lines in the order of their starts, ties in the order of the list
abbrev pub put_by_start : PlanLine → Plan → Plan
put_by_start l [] = l ∷ []
put_by_start l (m ∷ ms) = cond (l.at ≤? m.at) (l ∷ m ∷ ms) (m ∷ put_by_start l ms)

abbrev pub by_start : Plan → Plan
by_start [] = []
by_start (l ∷ ls) = put_by_start l (by_start ls)

-- The rate of a fluent is summed from 0 over the lines that run, in the order of their starts.
abbrev pub rate_reckoned : TaskParts → Plan → ℚ → ℚ → ℕ → List Reckoning
rate_reckoned task plan from to f = sums zeroℚ (flat_map (λ l. rates_of task l f) (by_start (filter (runs_between from to) plan)))

-- The move of a fluent is reckoned as its rate, the elapsed time, their product, and its sum with the value.
abbrev pub move_of : TaskParts → Plan → ℚ → ℚ → State → ℕ → List Reckoning
move_of task plan from to s f = rate_reckoned task plan from to f
    ++ (Sum to (neg_ℚ from) ∷ Product (rate task plan from to f) (to -ℚ from) ∷ Sum (s.fluents f) (rate task plan from to f *ℚ (to -ℚ from)) ∷ [])

-- each fluent of the task moves, also one without a running rate
abbrev pub move_reckoned : TaskParts → Plan → ℚ → ℚ → State → List Reckoning
move_reckoned task plan from to s = flat_map (move_of task plan from to s) (fluent_numbers task)

-- The over-all forms of the lines that run over a move are reckoned at both of its ends.
abbrev pub over_all_reckoned : TaskParts → Plan → ℚ → ℚ → State → State → List Reckoning
over_all_reckoned task plan from to s u = flat_map (λ l. flat_map (λ e. Value e s.fluents ∷ Value e u.fluents ∷ []) (action_of task l.action).over_all.comparisons) (filter (runs_between from to) plan)

-- the effects of happening k
abbrev pub effects_at : TaskParts → Plan → ℕ → List Reckoning
effects_at task plan k = effects_reckoned task (steps_at task plan (time_of task plan k)) (state_before task plan k)

-- the move from happening k to a time
abbrev pub move_to : TaskParts → Plan → ℕ → ℚ → List Reckoning
move_to task plan k t = move_reckoned task plan (time_of task plan k) t (state_after task plan k)

-- the move from happening k to the next, where there is one
abbrev pub move_at : TaskParts → Plan → ℕ → List Reckoning
move_at task plan k = if nat_lt (k + 1) (count task plan) then move_to task plan k (time_of task plan (k + 1)) else []

-- What belongs to happening k in the whole course: the forms that its steps read, its effects, its time plus epsilon,
-- the move to the next happening, and the over-all forms at both ends of that move.
abbrev pub whole_at : TaskParts → Rules → Plan → ℕ → List Reckoning
whole_at task rules plan k = flat_map (read_reckoned task (state_before task plan k)) (steps_at task plan (time_of task plan k))
    ++ effects_at task plan k
    ++ (Sum (time_of task plan k) rules.epsilon ∷ [])
    ++ move_at task plan k
    ++ (if nat_lt (k + 1) (count task plan) then over_all_reckoned task plan (time_of task plan k) (time_of task plan (k + 1)) (state_after task plan k) (state_before task plan (k + 1)) else [])

-- A time cost in three numbers reckons something only between soft and hard.
abbrev pub late_reckoned : LateCost → Option ℚ → List Reckoning
late_reckoned c None = []
late_reckoned c (Some m) = if (m ≤? c.soft) || (c.hard ≤? m) then []
    else (Sum m (neg_ℚ c.soft) ∷ Sum c.hard (neg_ℚ c.soft) ∷ Product c.top (m -ℚ c.soft) ∷ Product (c.top *ℚ (m -ℚ c.soft)) (inverse (c.hard -ℚ c.soft)) ∷ [])

abbrev pub piece_reckoned : ℚ → Piece → ℚ → List Reckoning
piece_reckoned lower p m =
    let slope = (p.to -ℚ p.from) *ℚ inverse (p.until -ℚ lower) in
    Sum p.until (neg_ℚ lower) ∷ Sum p.to (neg_ℚ p.from) ∷ Product (p.to -ℚ p.from) (inverse (p.until -ℚ lower)) ∷ Sum m (neg_ℚ lower) ∷ Product slope (m -ℚ lower) ∷ Sum p.from (slope *ℚ (m -ℚ lower)) ∷ []

-- A time cost in pieces reckons the piece in which the first moment lies; at 0, past the end or never, nothing.
abbrev pub pieces_reckoned : ℚ → List Piece → ℚ → List Reckoning
pieces_reckoned lower [] m = []
pieces_reckoned lower (p ∷ ps) m = if m ≤? lower then [] else (if m ≤? p.until then piece_reckoned lower p m else pieces_reckoned p.until ps m)

abbrev pub at_some : {A : Type 0} → (A → List Reckoning) → Option A → List Reckoning
at_some f None = []
at_some f (Some x) = f x

-- what a soft term reckons: the comparisons of a goal preference, the value of a time cost and its product with the
-- weight
abbrev pub soft_reckoned : Soft → Trace → State → List Reckoning
soft_reckoned (soft.Trail c weight) xs last = []
soft_reckoned (soft.Goal formula forms weight) xs last = map (λ e. Value e last.fluents) forms
soft_reckoned (soft.Late formula c weight) xs last = late_reckoned c (first_moment formula xs) ++ (Product weight (late_value c (first_moment formula xs)) ∷ [])
soft_reckoned (soft.Pieces formula ps weight) xs last = at_some (pieces_reckoned zeroℚ ps) (first_moment formula xs) ++ (Product weight (pieces_value ps (first_moment formula xs)) ∷ [])

-- The cost is reckoned as the total time times its factor, the form over the fluents, what the soft terms reckon, and
-- then the sum from the constant on; a term that costs 0 adds 0, which is always defined.
abbrev pub cost_reckoned : TaskParts → Plan → List Reckoning
cost_reckoned task plan =
    let last = last_state task plan in
    let timed = task.metric.last *ℚ total_time plan in
    let fluents = value task.metric.fluents last.fluents in
    Product task.metric.last (total_time plan) ∷ Value task.metric.fluents last.fluents
    ∷ flat_map (λ s. soft_reckoned s (trace task plan) last) task.soft
    ++ sums task.metric.constant (timed ∷ fluents ∷ map (λ s. soft_cost s (trace task plan) last) task.soft)

-- The course up to the state before happening k has the effects of the happenings before it, and their moves.
abbrev pub course_before : TaskParts → Plan → ℕ → List (ℕ × List Reckoning)
course_before task plan k = map (λ j. (j, effects_at task plan j ++ move_at task plan j)) (numbers k)

-- The course up to the state after happening k has its effects too.
abbrev pub course_after : TaskParts → Plan → ℕ → List (ℕ × List Reckoning)
course_after task plan k = course_before task plan k ++ ((k, effects_at task plan k) ∷ [])

abbrev pub course_reaching : TaskParts → Plan → ℕ → ℚ → List (ℕ × List Reckoning)
course_reaching task plan zero t = []
course_reaching task plan (suc k) t = course_before task plan k ++ ((k, effects_at task plan k ++ move_to task plan k t) ∷ [])

-- The course up to the state at an instant ends with the move from the last happening before it.
abbrev pub course_at : TaskParts → Plan → ℚ → List (ℕ × List Reckoning)
course_at task plan t = course_reaching task plan (passed task plan t) t

-- The course of a cost goes up to the last state, and the cost's own reckonings belong to the place after the last
-- happening.
abbrev pub course_of_cost : TaskParts → Plan → List (ℕ × List Reckoning)
course_of_cost task plan = course_before task plan (count task plan) ++ ((count task plan, cost_reckoned task plan) ∷ [])

-- The whole course has all that belongs to each happening, and the goal's forms at the place after the last.
abbrev pub whole_course : TaskParts → Rules → Plan → List (ℕ × List Reckoning)
whole_course task rules plan = map (λ k. (k, whole_at task rules plan k)) (numbers (count task plan))
    ++ ((count task plan, map (λ e. Value e (last_state task plan).fluents) task.goal.comparisons) ∷ [])
