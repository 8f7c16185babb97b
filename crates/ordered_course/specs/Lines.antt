-- Believed: the steps of a list at their times, in the order of the list, each with the duration of its action.
use Rattle.std.specs.Prelude.{ℕ, ◌==◌, if◌then◌else◌, List, [], ◌∷◌, Option, Some, None}
use Rattle.std.specs.List.{zip}
use Rattle.rational.specs.Rational.{ℚ, zeroℚ, ◌-ℚ◌}
use Rattle.task_types.specs.declared.actions.SnapKind.{SnapKind}
use Rattle.task_types.specs.declared.actions.SnapKind.TheVariants.{Start, End, Instant, Timed}
use Rattle.task_types.specs.declared.parts.TaskParts.{TaskParts}
use Rattle.task_types.specs.Plan.{Step, snap_of}
use Rattle.task_types.specs.Order.{Order}
use Rattle.task_types.specs.Agreement.{end_time}

-- The duration of a step's action, given since when actions run and the steps that come after it: a start's action goes
-- on to the next end of it.
abbrev pub duration_listed : TaskParts → SnapKind → Option ℕ → (ℕ → ℚ) → ℚ → List (ℕ × ℚ) → ℚ
duration_listed task Start (Some a) started t later = end_time task a later -ℚ t
duration_listed task End (Some a) started t later = t -ℚ started a
duration_listed task Instant (Some a) started t later = zeroℚ
duration_listed task Timed (Some a) started t later = zeroℚ
duration_listed task kind None started t later = zeroℚ

-- since when actions run, after a step
abbrev pub started_on : SnapKind → Option ℕ → ℚ → (ℕ → ℚ) → ℕ → ℚ
started_on Start (Some a) t started = λ b. if b == a then t else started b
started_on kind o t started = started

abbrev pub steps_listed : TaskParts → (ℕ → ℚ) → List (ℕ × ℚ) → List Step
steps_listed task started [] = []
steps_listed task started (p ∷ ps) =
    record { time = p.1; snap = p.0; duration = duration_listed task (snap_of task p.0).kind (snap_of task p.0).action started p.1 ps }
    ∷ steps_listed task (started_on (snap_of task p.0).kind (snap_of task p.0).action p.1 started) ps

-- The steps of an ordering at some times.
unfoldable pub steps_of : TaskParts → Order → List ℚ → List Step
steps_of task o times = steps_listed task (λ a. zeroℚ) (zip o.steps times)
