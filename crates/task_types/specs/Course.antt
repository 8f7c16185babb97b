-- Believed: the states of a timed plan, at and between its happenings.
-- After Fox and Long 2003: the updating function, the execution of a happening, continuous change between happenings.
use Rattle.std.specs.Prelude.{ℕ, zero, suc, Bool, false, cond, not, ◌&&◌, ◌||◌, ◌==◌, List, [], ◌∷◌, map, length, slice_index_or, fold}
use Rattle.std.specs.List.{list_any, filter, flat_map}
use Rattle.rational.specs.Rational.{ℚ, zeroℚ, ◌+ℚ◌, ◌*ℚ◌, ◌-ℚ◌}
use Rattle.task_types.specs.declared.conditions.Amount.{Amount}
use Rattle.task_types.specs.declared.conditions.Effect.{Effect}
use Rattle.task_types.specs.declared.parts.TaskParts.{TaskParts}
use Rattle.task_types.specs.declared.plans.PlanLine.{PlanLine}
use Rattle.task_types.specs.Tests.{◌<?◌, ◌≤?◌, ◌=?◌, total, last_or_else}
use Rattle.task_types.specs.Sets.{is_in}
use Rattle.task_types.specs.State.{State, value}
use Rattle.task_types.specs.Plan.{Plan, Step, snap_of, action_of, end_of, steps, happenings}

-- In the initial state the facts are those that hold at first, and the fluents have their initial values.
unfoldable pub initial : TaskParts → State
initial task = record {
  facts = λ f. slice_index_or (map (λ x. x.holds) task.facts) f false;
  fluents = λ f. slice_index_or (map (λ x. x.value) task.fluents) f zeroℚ;
}

-- the entries of a list that belong to a fluent
abbrev pub entries_of : {A : Type 0} → ℕ → List (ℕ × A) → List A
entries_of f entries = map (λ e. e.1) (filter (λ e. e.0 == f) entries)

-- A line runs from one time to a later one where it starts no later than the former and ends no earlier than the
-- latter.
abbrev pub runs_between : ℚ → ℚ → PlanLine → Bool
runs_between from to l = (l.at ≤? from) && (to ≤? end_of l)

-- the rates of a line on a fluent
abbrev pub rates_of : TaskParts → PlanLine → ℕ → List ℚ
rates_of task l f = entries_of f (snap_of task (action_of task l.action).start).rates

-- The rates of all lines that run between two times add up.
unfoldable pub rate : TaskParts → Plan → ℚ → ℚ → ℕ → ℚ
rate task plan from to f = total (flat_map (λ l. rates_of task l f) (filter (runs_between from to) plan))

-- A state moved to a later time, with no happening between, keeps its facts, and each fluent grows by its rate times
-- the elapsed time.
unfoldable pub moved : TaskParts → Plan → ℚ → ℚ → State → State
moved task plan from to s = record {
  facts = s.facts;
  fluents = λ f. s.fluents f +ℚ rate task plan from to f *ℚ (to -ℚ from);
}

-- An amount is its form in the state, plus its factor times the duration.
abbrev pub amount : Step → State → Amount → ℚ
amount step s a = value a.form s.fluents +ℚ a.duration *ℚ step.duration

abbrev pub effect_of : TaskParts → Step → Effect
effect_of task step = (snap_of task step.snap).effect

-- what the steps assign to a fluent, and by what they increase it, in their order; all of it reads the state before
abbrev pub assigned : TaskParts → List Step → State → ℕ → List ℚ
assigned task here s f = flat_map (λ step. map (amount step s) (entries_of f (effect_of task step).assigns)) here

abbrev pub increased : TaskParts → List Step → State → ℕ → List ℚ
increased task here s f = flat_map (λ step. map (amount step s) (entries_of f (effect_of task step).increases)) here

abbrev pub added : TaskParts → List Step → ℕ → Bool
added task here f = list_any (λ step. is_in f (effect_of task step).adds) here

abbrev pub deleted : TaskParts → List Step → ℕ → Bool
deleted task here f = list_any (λ step. is_in f (effect_of task step).deletes) here

-- The steps of one happening apply together: facts are deleted, then added; of several assignments the last counts, and
-- then come all increases.
unfoldable pub happen : TaskParts → List Step → State → State
happen task here s = record {
  facts = λ f. added task here f || (not (deleted task here f) && s.facts f);
  fluents = λ f. fold (λ q r. q +ℚ r) (last_or_else (s.fluents f) (assigned task here s f)) (increased task here s f);
}

-- the steps at a time
abbrev pub steps_at : TaskParts → Plan → ℚ → List Step
steps_at task plan t = filter (λ s. s.time =? t) (steps task plan)

-- the time of happening k, and how many there are
abbrev pub time_of : TaskParts → Plan → ℕ → ℚ
time_of task plan k = slice_index_or (happenings task plan) k zeroℚ

abbrev pub count : TaskParts → Plan → ℕ
count task plan = length (happenings task plan)

-- The state in which t is reached after the first k happenings: the initial state before the first, since no line runs
-- there, and else the state after the latest of them, moved.
unfoldable pub reached : TaskParts → Plan → ℕ → ℚ → State
reached task plan zero t = initial task
reached task plan (suc k) t = moved task plan (time_of task plan k) t (happen task (steps_at task plan (time_of task plan k)) (reached task plan k (time_of task plan k)))

-- The state before happening k is that in which its time is reached.
abbrev pub state_before : TaskParts → Plan → ℕ → State
state_before task plan k = reached task plan k (time_of task plan k)

-- The state after happening k is the one before it with the steps of its time applied.
abbrev pub state_after : TaskParts → Plan → ℕ → State
state_after task plan k = happen task (steps_at task plan (time_of task plan k)) (state_before task plan k)

-- The states of the trace are the initial state, then the state after each happening.
abbrev pub state : TaskParts → Plan → ℕ → State
state task plan zero = initial task
state task plan (suc k) = state_after task plan k

-- The last state is that after all happenings.
abbrev pub last_state : TaskParts → Plan → State
last_state task plan = state task plan (count task plan)

-- how many of some ascending times come before t
abbrev pub count_before : ℚ → List ℚ → ℕ
count_before t [] = zero
count_before t (u ∷ us) = cond (u <? t) (suc (count_before t us)) zero

abbrev pub passed : TaskParts → Plan → ℚ → ℕ
passed task plan t = count_before t (happenings task plan)

-- The state before an instant is that in which it is reached; where nothing happens it is the state at the instant.
unfoldable pub before : TaskParts → Plan → ℚ → State
before task plan t = reached task plan (passed task plan t) t

-- The state after an instant is that in which it is left; where nothing happens it is the state at the instant.
unfoldable pub after : TaskParts → Plan → ℚ → State
after task plan t = happen task (steps_at task plan t) (before task plan t)
