-- The plan steps of a list, which closes what it starts, and the snap actions of a task, each that of one action.
use Rattle.std.specs.Prelude.{ℕ, ◌≡◌, true, false, List, [], ◌∷◌, ◌++◌, Option, Some, None, option_to_list}
use Rattle.rational.specs.Rational.{ℚ, zeroℚ, ◌-ℚ◌}
use Rattle.task_types.specs.declared.actions.SnapKind.{SnapKind}
use Rattle.task_types.specs.declared.actions.SnapKind.TheVariants.{Start, End, Instant, Timed}
use Rattle.task_types.specs.declared.parts.TaskParts.{TaskParts}
use Rattle.task_types.specs.Sets.{is_in}
use Rattle.task_types.specs.Plan.{Step, action_of, snap_of}
use Rattle.task_types.specs.Order.{run_on}
use Rattle.task_types.specs.Agreement.{end_time}
use Rattle.ordered_course.specs.Lines.{started_on}

abbrev pub step_at : ℚ → ℕ → ℚ → Step
step_at t s d = record { time = t; snap = s; duration = d }

-- a plan step of the list, given since when actions run and what comes after it
abbrev pub listed : TaskParts → SnapKind → Option ℕ → (ℕ → ℚ) → ℕ → ℚ → List (ℕ × ℚ) → List Step
listed task Start (Some a) started s t later = step_at t s (end_time task a later -ℚ t) ∷ []
listed task End (Some a) started s t later = step_at t s (t -ℚ started a) ∷ []
listed task Instant (Some a) started s t later = step_at t s zeroℚ ∷ []
listed task Timed o started s t later = []
listed task kind None started s t later = []

abbrev pub plan_listed : TaskParts → (ℕ → ℚ) → List (ℕ × ℚ) → List Step
plan_listed task started [] = []
plan_listed task started (p ∷ ps) = listed task (snap_of task p.0).kind (snap_of task p.0).action started p.0 p.1 ps ++ plan_listed task (started_on (snap_of task p.0).kind (snap_of task p.0).action p.1 started) ps

-- a step may come while some actions run
abbrev pub MayCome : SnapKind → Option ℕ → List ℕ → Type 0
MayCome Start (Some a) running = is_in a running ≡ false
MayCome End (Some a) running = is_in a running ≡ true
MayCome Instant (Some a) running = Unit {0}
MayCome Timed o running = Unit {0}
MayCome kind None running = ⊥

-- A list of steps closes some running actions where each step may come, and none runs in the end.
abbrev pub Closes : TaskParts → List ℕ → List (ℕ × ℚ) → Type 0
Closes task running [] = running ≡ []
Closes task running (p ∷ ps) = MayCome (snap_of task p.0).kind (snap_of task p.0).action running × Closes task (run_on (snap_of task p.0).kind (option_to_list (snap_of task p.0).action) running) ps

-- The snap actions of a task are those of its actions.
pub record AreOwned (task : TaskParts) : Type 0 where
  pub starts : (s a : ℕ) → (snap_of task s).kind ≡ Start → (snap_of task s).action ≡ Some a → ((action_of task a).start ≡ s) × ((e : ℕ) × ((action_of task a).end ≡ Some e))
  pub ends : (s a : ℕ) → (snap_of task s).kind ≡ End → (snap_of task s).action ≡ Some a → (action_of task a).end ≡ Some s
  pub instants : (s a : ℕ) → (snap_of task s).kind ≡ Instant → (snap_of task s).action ≡ Some a → ((action_of task a).start ≡ s) × ((action_of task a).end ≡ None)
  pub own_end : (a b s : ℕ) → (action_of task a).end ≡ Some s → (action_of task b).end ≡ Some s → a ≡ b
  pub end_kind : (a s : ℕ) → (action_of task a).end ≡ Some s → (snap_of task s).kind ≡ End
