-- Private: a sweep along a plan with the watchers of its task's soft terms.
use Rattle.std.specs.Prelude.{ℕ, suc, ◌≡◌, ◌⊎◌, ◌∷◌, map, Result, Ok, Err}
use Rattle.rational.specs.Rational.{zeroℚ}
use Rattle.exact_lin.specs.Reckoning.{wide_limit}
use Rattle.exact_lin.specs.Reckonings.{AllDefined, IsFirstUndefined}
use Rattle.task_types.specs.declared.parts.TaskParts.{TaskParts}
use Rattle.task_types.specs.Sets.{numbers}
use Rattle.task_types.specs.Plan.{Plan}
use Rattle.task_types.specs.Course.{initial, state_after, time_of, count}
use Rattle.task_types.specs.Reckoned.{course_before}
use Rattle.task_types.specs.Trace.{Trace, Moment}
use Rattle.timed_meaning.specs.declared.faults.MeaningFault.{MeaningFault}
use Rattle.timed_meaning.specs.declared.faults.MeaningFault.TheVariants.{Wide, Memory}
use Rattle.timed_meaning.specs.Sweeps.{IsBefore, IsAfter}
use Rattle.metric_cost.specs.declared.following.Follower.{Follower}
use Rattle.metric_cost.specs.Watching.{HaveSeen}

-- the state after a happening, at its time
abbrev pub moment_after : TaskParts → Plan → ℕ → Moment
moment_after task plan k = record { facts = (state_after task plan k).facts; time = time_of task plan k }

-- the trace up to the state before happening k
abbrev pub trace_before : TaskParts → Plan → ℕ → Trace
trace_before task plan k = record { facts = (initial task).facts; time = zeroℚ } ∷ map (moment_after task plan) (numbers k)

-- It stands before happening k, and has seen all states before it.
pub record StandsBefore (task : TaskParts) (plan : Plan) (f : Follower) (k : ℕ) : Type 0 where
  pub sweep : IsBefore task plan f.sweep
  pub place : f.sweep.agenda.place ≡ k
  pub seen : HaveSeen task f.watchers (trace_before task plan k)

-- It stands after happening k, and has seen the state after it too.
pub record StandsAfter (task : TaskParts) (plan : Plan) (f : Follower) (k : ℕ) : Type 0 where
  pub sweep : IsAfter task plan f.sweep
  pub place : f.sweep.agenda.place ≡ k
  pub seen : HaveSeen task f.watchers (trace_before task plan (suc k))

-- It stands after the last happening, where there is one, and has seen the whole trace.
abbrev pub StandsLast : TaskParts → Plan → Follower → Type 0
StandsLast task plan f = (StandsBefore task plan f 0 × (count task plan ≡ 0)) ⊎ ((k : ℕ) × StandsAfter task plan f k × (count task plan ≡ suc k))

-- It stands before happening k, the course up to it being defined; or Wide with the first place where it isn't.
abbrev pub GoesTo : Result Follower MeaningFault → TaskParts → Plan → ℕ → Type 0
GoesTo (Ok f) task plan k = AllDefined wide_limit (course_before task plan k) × StandsBefore task plan f k
GoesTo (Err (Wide j)) task plan k = IsFirstUndefined wide_limit (course_before task plan k) j
GoesTo (Err Memory) task plan k = Unit {0}

-- It has gone along the whole course; or Wide with the first place where it isn't defined.
abbrev pub GoesAlong : Result Follower MeaningFault → TaskParts → Plan → Type 0
GoesAlong (Ok f) task plan = AllDefined wide_limit (course_before task plan (count task plan)) × StandsLast task plan f
GoesAlong (Err (Wide j)) task plan = IsFirstUndefined wide_limit (course_before task plan (count task plan)) j
GoesAlong (Err Memory) task plan = Unit {0}
