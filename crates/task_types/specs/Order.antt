-- Believed: orderings of steps, and the links of steps that touch a common token.
-- COLIN (2012) keeps start and end snap actions in one total order; here it is less than that.
use Rattle.std.specs.Prelude.{ℕ, Bool, true, false, not, ◌&&◌, ◌||◌, ◌==◌, nat_lt, nat_le, if◌then◌else◌, IsTrue, List, [], ◌++◌, length, take, slice_index, option_to_list, fold}
use Rattle.std.specs.List.{list_any, list_all, filter, count_by}
use Rattle.task_types.specs.declared.actions.Snap.{Snap}
use Rattle.task_types.specs.declared.actions.SnapKind.{SnapKind}
use Rattle.task_types.specs.declared.actions.SnapKind.TheVariants.{Start, End, Instant, Timed}
use Rattle.task_types.specs.declared.orderings.Link.{Link}
use Rattle.task_types.specs.declared.orderings.Link.TheVariants.{Free, Weak, Apart}
use Rattle.task_types.specs.declared.parts.TaskParts.{TaskParts}
use Rattle.task_types.specs.Tests.{every}
use Rattle.task_types.specs.Sets.{is_in, meet}
use Rattle.task_types.specs.Plan.{snap_of}
use Rattle.task_types.specs.Trace.{at}
use Rattle.task_types.specs.declared.tokens.Token.{Token}
use Rattle.task_types.specs.Touch.{looks, marks, bends, tokens, is_timed}

abbrev pub touches : TaskParts → Snap → Token → Bool
touches task x t = looks task x t || marks task x t || bends task x t

-- A token sets two steps apart where one marks it and the other marks or looks at it.
abbrev pub sets_apart : TaskParts → Snap → Snap → Token → Bool
sets_apart task x y t = marks task x t && (marks task y t || looks task y t) || looks task x t && marks task y t

-- A token sets two steps in order where one bends it and the other touches it.
abbrev pub sets_order : TaskParts → Snap → Snap → Token → Bool
sets_order task x y t = bends task x t && touches task y t || touches task x t && bends task y t

-- The link of two steps is the strongest over all tokens; two timed steps are free, since their moments are given.
unfoldable pub link : TaskParts → Snap → Snap → Link
link task x y =
    if is_timed x.kind && is_timed y.kind then Free
    else (if list_any (sets_apart task x y) (tokens task) then Apart
    else (if list_any (sets_order task x y) (tokens task) then Weak else Free))

-- An ordering is a list of snap actions, and extra pairs of places in it, which count from 0.
pub record Order : Type 0 where
  pub steps : List ℕ
  pub extra : List (ℕ × ℕ)

-- the actions that run after a step, where some ran before it; `own` is the step's action
abbrev pub run_on : SnapKind → List ℕ → List ℕ → List ℕ
run_on Start own running = running ++ own
run_on End own running = filter (λ a. not (is_in a own)) running
run_on Instant own running = running
run_on Timed own running = running

-- The actions that run after a list of steps are those that it started and didn't end, in the order of their starts.
abbrev pub running : TaskParts → List ℕ → List ℕ
running task steps = fold (λ actions s. run_on (snap_of task s).kind (option_to_list (snap_of task s).action) actions) [] steps

abbrev pub timed_count : TaskParts → List ℕ → ℕ
timed_count task steps = count_by (λ s. is_timed (snap_of task s).kind) steps

abbrev pub plan_step_count : TaskParts → List ℕ → ℕ
plan_step_count task steps = count_by (λ s. not (is_timed (snap_of task s).kind)) steps

-- A snap action may follow a list: a start where its action doesn't run, an end where it does, an instantaneous action
-- always, a timed step where it is the next one.
abbrev pub may_follow : TaskParts → List ℕ → ℕ → SnapKind → Bool
may_follow task steps s Start = not (meet (option_to_list (snap_of task s).action) (running task steps))
may_follow task steps s End = meet (option_to_list (snap_of task s).action) (running task steps)
may_follow task steps s Instant = true
may_follow task steps s Timed = at task.timed (timed_count task steps) (λ t. t.1 == s)

-- the most plan steps of an ordering
abbrev pub plan_step_limit : ℕ
plan_step_limit = 128

-- An ordering is built where each step may follow those before it, its plan steps are within the limit, and each extra
-- pair names a step and a later one.
unfoldable pub is_built : TaskParts → Order → Bool
is_built task o = every (length o.steps) (λ k. may_follow task (take k o.steps) (slice_index o.steps k) (snap_of task (slice_index o.steps k)).kind)
    && nat_le (plan_step_count task o.steps) plan_step_limit
    && list_all (λ p. nat_lt p.0 p.1 && nat_lt p.1 (length o.steps)) o.extra

-- A list of steps is closed where every start has its end and every timed step is there.
unfoldable pub is_closed : TaskParts → Order → Bool
is_closed task o = list_all (λ a. false) (running task o.steps) && (timed_count task o.steps == length task.timed)

-- A closed ordering is built, every start of it has its end, and every timed step is there.
pub record IsClosedOrdering (task : TaskParts) (o : Order) : Type 0 where
  pub built : IsTrue (is_built task o)
  pub closed : IsTrue (is_closed task o)

-- The link of steps i and j of an ordering is Apart where an extra pair names them, and else that of their snap
-- actions.
abbrev pub pair_link : TaskParts → Order → ℕ → ℕ → Link
pair_link task o i j = if list_any (λ p. (p.0 == i) && (p.1 == j)) o.extra then Apart else link task (snap_of task (slice_index o.steps i)) (snap_of task (slice_index o.steps j))
