-- Private: what a pass over the happenings has noted so far.
use Rattle.std.specs.Prelude.{ℕ, suc, ◌≡◌, Bool, List, [], ◌∷◌, ◌++◌, map, None}
use Rattle.std.specs.List.{flat_map}
use Rattle.rational.specs.Rational.{zeroℚ}
use Rattle.exact_lin.specs.Reckonings.{Reckoning, Sum}
use Rattle.task_types.specs.declared.parts.Rules.{Rules}
use Rattle.task_types.specs.declared.parts.TaskParts.{TaskParts}
use Rattle.task_types.specs.Sets.{numbers}
use Rattle.task_types.specs.State.{State, holds}
use Rattle.task_types.specs.Plan.{Plan, Step, snap_of}
use Rattle.task_types.specs.Course.{initial, before, time_of, steps_at, state_before, state_after}
use Rattle.task_types.specs.Reckoned.{read_reckoned, effects_at, over_all_reckoned}
use Rattle.task_types.specs.Trace.{Moment, Trace}
use Rattle.timed_meaning.specs.declared.steps.OwnedStep.{OwnedStep}
use Rattle.timed_meaning.specs.Sweeps.{IsBefore, IsAfter, IsBetween, steps_met, steps_here}
use Rattle.plan_validator.specs.declared.readings.Readings.{Readings}
use Rattle.plan_validator.specs.declared.watching.Watch.{Watch}
use Rattle.plan_validator.specs.Firsts.{Note, all_noted}
use Rattle.plan_validator.specs.Readings.{fits_at, as_start, as_end}
use Rattle.plan_validator.specs.Segments.{over_all_notes, over_all_note, over_all_values, running_over}
use Rattle.plan_validator.specs.Following.{AreFollowing}

-- ---- the tests of steps, each in the state before its time

abbrev pub fits_test : TaskParts → Rules → Plan → Step → Bool
fits_test task rules plan s = fits_at task rules (before task plan s.time) s

abbrev pub start_test : TaskParts → Plan → Step → Bool
start_test task plan s = as_start (snap_of task s.snap).kind (holds (snap_of task s.snap).condition (before task plan s.time))

abbrev pub end_test : TaskParts → Plan → Step → Bool
end_test task plan s = as_end (snap_of task s.snap).kind (holds (snap_of task s.snap).condition (before task plan s.time))

-- what is noted of a step, at the place of its owner
abbrev pub step_note : (Step → Bool) → OwnedStep → Note
step_note test o = ((o.owner, 0), test o.step)

abbrev pub steps_read : TaskParts → Rules → Plan → List OwnedStep → Readings
steps_read task rules plan xs = record {
  durations = record { place = all_noted None (map (step_note (fits_test task rules plan)) xs) };
  starts = record { place = all_noted None (map (step_note (start_test task plan)) xs) };
  ends = record { place = all_noted None (map (step_note (end_test task plan)) xs) };
}

-- ---- the states so far

abbrev pub moment_after : TaskParts → Plan → ℕ → Moment
moment_after task plan k = record { facts = (state_after task plan k).facts; time = time_of task plan k }

-- the trace up to the state before happening k
abbrev pub trace_to : TaskParts → Plan → ℕ → Trace
trace_to task plan k = record { facts = (initial task).facts; time = zeroℚ } ∷ map (moment_after task plan) (numbers k)

-- ---- what is reckoned at a happening, and on the way to the next

abbrev pub visit_reckoned : TaskParts → Rules → Plan → ℕ → List Reckoning
visit_reckoned task rules plan k = flat_map (read_reckoned task (state_before task plan k)) (steps_at task plan (time_of task plan k)) ++ effects_at task plan k ++ (Sum (time_of task plan k) rules.epsilon ∷ [])

-- the over-all forms of the lines that run over segment k, in one state
abbrev pub end_reckoned : TaskParts → Plan → Watch → State → ℕ → List Reckoning
end_reckoned task plan w s k = flat_map (over_all_values task s) (running_over task plan w.sweep.agenda.lines.items k)

-- what is noted of them there
abbrev pub end_notes : TaskParts → Plan → Watch → State → ℕ → List Note
end_notes task plan w s k = map (over_all_note task k s) (running_over task plan w.sweep.agenda.lines.items k)

-- the over-all forms at both ends of segment k
abbrev pub over_all_at : TaskParts → Plan → ℕ → List Reckoning
over_all_at task plan k = over_all_reckoned task plan (time_of task plan k) (time_of task plan (suc k)) (state_after task plan k) (state_before task plan (suc k))

-- ---- where a pass is

-- It stands before happening k, and has noted what there was to note.
pub record IsWatching (task : TaskParts) (rules : Rules) (plan : Plan) (w : Watch) (k : ℕ) : Type 0 where
  pub before : IsBefore task plan w.sweep
  pub place : w.sweep.agenda.place ≡ k
  pub readings : w.readings ≡ steps_read task rules plan (steps_met w.sweep)
  pub over_alls : w.over_alls.place ≡ all_noted None (over_all_notes task plan w.sweep.agenda.lines.items k)
  pub automata : AreFollowing task.hard w.automata.items (trace_to task plan k)

-- It stands after happening k.
pub record HasVisited (task : TaskParts) (rules : Rules) (plan : Plan) (w : Watch) (k : ℕ) : Type 0 where
  pub after : IsAfter task plan w.sweep
  pub place : w.sweep.agenda.place ≡ k
  pub readings : w.readings ≡ steps_read task rules plan (steps_met w.sweep ++ steps_here w.sweep)
  pub over_alls : w.over_alls.place ≡ all_noted None (over_all_notes task plan w.sweep.agenda.lines.items k)
  pub automata : AreFollowing task.hard w.automata.items (trace_to task plan (suc k))

-- It has left happening k, and holds the state before the next.
pub record HasLeft (task : TaskParts) (rules : Rules) (plan : Plan) (w : Watch) (k : ℕ) : Type 0 where
  pub between : IsBetween task plan w.sweep
  pub place : w.sweep.agenda.place ≡ k
  pub readings : w.readings ≡ steps_read task rules plan (steps_met w.sweep ++ steps_here w.sweep)
  pub over_alls : w.over_alls.place ≡ all_noted (all_noted None (over_all_notes task plan w.sweep.agenda.lines.items k)) (end_notes task plan w (state_after task plan k) k)
  pub automata : AreFollowing task.hard w.automata.items (trace_to task plan (suc k))
