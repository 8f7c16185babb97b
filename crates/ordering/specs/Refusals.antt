-- Believed: why an ordering refuses a step or a pair, or isn't closed.
use Rattle.std.specs.Prelude.{ℕ, ◌≡◌, ◌+◌, ◌==◌, ◌&&◌, ◌⊎◌, Bool, true, false, not, nat_lt, nat_le, if◌then◌else◌, List, [], ◌∷◌, length, Option, Some, None, Result, Ok, Err, option_to_list}
use Rattle.std.specs.List.{list_any, filter}
use Rattle.task_types.specs.declared.actions.Snap.{Snap}
use Rattle.task_types.specs.declared.actions.SnapKind.{SnapKind}
use Rattle.task_types.specs.declared.actions.SnapKind.TheVariants.{Start, End, Instant, Timed}
use Rattle.task_types.specs.declared.parts.TaskParts.{TaskParts}
use Rattle.task_types.specs.Order.{Order, may_follow, plan_step_count, plan_step_limit, timed_count}
use Rattle.task_types.specs.Plan.{snap_of}
use Rattle.task_types.specs.Sets.{is_in}
use Rattle.task_types.specs.Touch.{is_timed}
use Rattle.task_types.specs.WellMade.{is_start}
use Rattle.ordering.specs.declared.faults.OrderFault.{OrderFault}
use Rattle.ordering.specs.declared.faults.OrderFault.TheVariants.{UnknownStep, Running, EndWithoutStart, OpenAction, TilMissing, TilOrder, Cycle, Limit, Memory}

-- A call answers Ok exactly where nothing is refused and memory holds out, and else what is refused.
abbrev pub Answers : {A : Type 0} → Option OrderFault → Result A OrderFault → Type 0
Answers refusal (Ok x) = refusal ≡ None
Answers refusal (Err fault) = (refusal ≡ Some fault) ⊎ ((refusal ≡ None) × (fault ≡ Memory))

-- ---- steps

-- what is wrong with a step of some kind that may not follow
abbrev pub step_refusal : SnapKind → Bool → Option OrderFault
step_refusal kind true = None
step_refusal Start false = Some Running
step_refusal End false = Some EndWithoutStart
step_refusal Instant false = None
step_refusal Timed false = Some TilOrder

-- an ordering has all the plan steps that it may have, and this is one more
abbrev pub exceeds_limit : TaskParts → Order → SnapKind → Bool
exceeds_limit task o kind = not (is_timed kind) && not (nat_lt (plan_step_count task o.steps) plan_step_limit)

-- A step is refused for the limit of plan steps, else where it may not follow those before it.
unfoldable pub push_refusal : TaskParts → Order → ℕ → Option OrderFault
push_refusal task o s = if exceeds_limit task o (snap_of task s).kind then Some Limit else step_refusal (snap_of task s).kind (may_follow task o.steps s (snap_of task s).kind)

-- ---- pairs

-- a number names a step of so many, which count from 1
abbrev pub names_step : ℕ → ℕ → Bool
names_step count n = nat_lt 0 n && nat_le n count

-- A pair is refused where a number names no step, else where the second step isn't later than the first.
abbrev pub pair_refusal : ℕ → ℕ → ℕ → Option OrderFault
pair_refusal count first second = if names_step count first && names_step count second then (if nat_lt first second then None else Some Cycle) else Some UnknownStep

-- ---- closing

abbrev pub is_end : SnapKind → Bool
is_end Start = false
is_end End = true
is_end Instant = false
is_end Timed = false

-- the action that a snap action starts, or ends, where there is one
abbrev pub started : Snap → List ℕ
started s = filter (λ a. is_start s.kind) (option_to_list s.action)

abbrev pub ended : Snap → List ℕ
ended s = filter (λ a. is_end s.kind) (option_to_list s.action)

-- A start is open where no later step ends its action.
abbrev pub is_open : TaskParts → ℕ → List ℕ → Bool
is_open task s later = list_any (λ a. not (list_any (λ e. is_in a (ended (snap_of task e))) later)) (started (snap_of task s))

-- the first open start of some steps, which are numbered from n on
abbrev pub first_open : TaskParts → ℕ → List ℕ → Option ℕ
first_open task n [] = None
first_open task n (s ∷ ss) = if is_open task s ss then Some n else first_open task (n + 1) ss

-- what keeps an ordering from being closed: an open start, by its number from 1 on, else that a timed step isn't there
abbrev pub lacking : Option ℕ → Bool → Option OrderFault
lacking (Some k) all = Some (OpenAction (k + 1))
lacking None true = None
lacking None false = Some TilMissing

unfoldable pub closing_refusal : TaskParts → Order → Option OrderFault
closing_refusal task o = lacking (first_open task 0 o.steps) (timed_count task o.steps == length task.timed)
