-- Private: what is read of the state before a happening, and what it tells of the steps there.
use Rattle.std.specs.Prelude.{ℕ, Bool, true, ◌&&◌, if◌then◌else◌, List, [], ◌∷◌, None, fold}
use Rattle.std.specs.List.{list_all, flat_map}
use Rattle.rational.specs.Rational.{ℚ}
use Rattle.exact_lin.specs.Forms.{LinearForm}
use Rattle.exact_lin.specs.Reckonings.{Reckoning, Value}
use Rattle.task_types.specs.declared.actions.Bound.{Bound}
use Rattle.task_types.specs.declared.actions.SnapKind.{SnapKind}
use Rattle.task_types.specs.declared.actions.SnapKind.TheVariants.{Start, End, Instant, Timed}
use Rattle.task_types.specs.declared.parts.Rules.{Rules}
use Rattle.task_types.specs.declared.parts.TaskParts.{TaskParts}
use Rattle.task_types.specs.Tests.{◌≤?◌, ◌⇒◌}
use Rattle.task_types.specs.State.{State, value, holds}
use Rattle.task_types.specs.Plan.{Step, snap_of}
use Rattle.task_types.specs.Clash.{is_read_at, own_action}
use Rattle.timed_meaning.specs.declared.steps.OwnedStep.{OwnedStep}
use Rattle.plan_validator.specs.declared.readings.Reading.{Reading}
use Rattle.plan_validator.specs.declared.readings.Readings.{Readings}
use Rattle.plan_validator.specs.Firsts.{noted}

-- the value of a form, as what is reckoned for it
abbrev pub one_value : State → LinearForm → List Reckoning
one_value s form = Value form s.fluents ∷ []

-- ---- durations

-- A duration meets a bound in the state in which that is read.
abbrev pub bound_met : State → ℚ → Bound → Bool
bound_met s d b = let v = value b.form s.fluents in if b.at_least then (v ≤? d) else (d ≤? v)

-- a bound counts at the kind of snap action at which it is read
abbrev pub bound_value : SnapKind → State → Bound → List Reckoning
bound_value kind s b = if is_read_at kind b then one_value s b.form else []

abbrev pub bound_read : SnapKind → State → ℚ → Bound → Bool
bound_read kind s d b = is_read_at kind b ⇒ bound_met s d b

-- a duration is at least epsilon, which is asked once, at the start
abbrev pub is_long : SnapKind → Rules → ℚ → Bool
is_long Start rules d = rules.epsilon ≤? d
is_long End rules d = true
is_long Instant rules d = true
is_long Timed rules d = true

abbrev pub bounds_reckoned : TaskParts → State → Step → List Reckoning
bounds_reckoned task s step = flat_map (bound_value (snap_of task step.snap).kind s) (flat_map (λ a. a.bounds) (own_action task (snap_of task step.snap)))

-- A duration fits at a step where it is long enough and meets the bounds that are read there.
abbrev pub fits_at : TaskParts → Rules → State → Step → Bool
fits_at task rules s step = is_long (snap_of task step.snap).kind rules step.duration
    && list_all (bound_read (snap_of task step.snap).kind s step.duration) (flat_map (λ a. a.bounds) (own_action task (snap_of task step.snap)))

-- ---- steps

abbrev pub reading_of : TaskParts → Rules → State → Step → Reading
reading_of task rules s step = record { fits = fits_at task rules s step; ready = holds (snap_of task step.snap).condition s }

-- a condition is asked of the kind of step to which it belongs
abbrev pub as_start : SnapKind → Bool → Bool
as_start Start b = b
as_start End b = true
as_start Instant b = b
as_start Timed b = true

abbrev pub as_end : SnapKind → Bool → Bool
as_end Start b = true
as_end End b = b
as_end Instant b = true
as_end Timed b = true

abbrev pub nothing_read : Readings
nothing_read = record { durations = record { place = None }; starts = record { place = None }; ends = record { place = None } }

abbrev pub with_reading : SnapKind → ℕ → Reading → Readings → Readings
with_reading kind owner r n = record {
  durations = record { place = noted n.durations.place ((owner, 0), r.fits) };
  starts = record { place = noted n.starts.place ((owner, 0), as_start kind r.ready) };
  ends = record { place = noted n.ends.place ((owner, 0), as_end kind r.ready) };
}

abbrev pub with_step : TaskParts → Rules → State → Readings → OwnedStep → Readings
with_step task rules s n o = with_reading (snap_of task o.step.snap).kind o.owner (reading_of task rules s o.step) n

-- what is noted of some steps
abbrev pub with_steps : TaskParts → Rules → State → Readings → List OwnedStep → Readings
with_steps task rules s n here = fold (with_step task rules s) n here
