-- Believed: where an ordering is blocked, since a literal or constraint fails along it whatever the times are.
use Rattle.std.specs.Prelude.{ℕ, ◌+◌, Bool, not, ◌&&◌, ◌||◌, ◌==◌, if◌then◌else◌, List, [], ◌∷◌, ◌++◌, map, length, take, slice_index, Option, fold}
use Rattle.std.specs.List.{flat_map, enumerate_from, find}
use Rattle.std.specs.Option.{option_map}
use Rattle.rational.specs.Rational.{zeroℚ}
use Rattle.task_types.specs.declared.actions.SnapKind.{SnapKind}
use Rattle.task_types.specs.declared.actions.SnapKind.TheVariants.{Start, End, Instant, Timed}
use Rattle.task_types.specs.declared.conditions.Condition.{Condition}
use Rattle.task_types.specs.declared.constraints.Trail.{Trail}
use Rattle.task_types.specs.declared.constraints.TrailKind.{TrailKind}
use Rattle.task_types.specs.declared.constraints.TrailKind.TheVariants.{Within}
use Rattle.task_types.specs.declared.orderings.Blocked.{Blocked}
use Rattle.task_types.specs.declared.orderings.Blocked.TheVariants as blocked_by
use Rattle.task_types.specs.declared.parts.TaskParts.{TaskParts}
use Rattle.task_types.specs.Tests.{◌≤?◌, some, ◌⇒◌}
use Rattle.task_types.specs.Sets.{is_in, numbers}
use Rattle.task_types.specs.State.{literal_holds, tree_holds}
use Rattle.task_types.specs.Plan.{action_of, snap_of}
use Rattle.task_types.specs.Course.{initial}
use Rattle.task_types.specs.Trace.{Trace, met, at}
use Rattle.task_types.specs.Order.{running}

-- A step changes the facts by deleting, then adding.
abbrev pub facts_on : TaskParts → (ℕ → Bool) → ℕ → ℕ → Bool
facts_on task facts s f = is_in f (snap_of task s).effect.adds || (not (is_in f (snap_of task s).effect.deletes) && facts f)

-- The facts after a list of steps are those at first, changed step by step.
abbrev pub facts_after : TaskParts → List ℕ → ℕ → Bool
facts_after task steps = fold (facts_on task) (initial task).facts steps

abbrev pub at_step : SnapKind → ℕ → ℕ → Blocked
at_step Start = blocked_by.AtStart
at_step End = blocked_by.AtEnd
at_step Instant = blocked_by.AtStart
at_step Timed = blocked_by.AtStart

-- the literals of a condition, numbered from 1, each with the place that it blocks and whether it holds
abbrev pub literal_tests : (ℕ → Blocked) → (ℕ → Bool) → Condition → List (Blocked × Bool)
literal_tests place facts c = map (λ l. (place l.0, literal_holds l.1 facts)) (enumerate_from 1 c.literals)

-- the number, from 1, of the last step of a list that starts an action
abbrev pub start_number : TaskParts → ℕ → ℕ → List ℕ → ℕ → ℕ
start_number task a n [] found = found
start_number task a n (s ∷ ss) found = start_number task a (n + 1) ss (if (action_of task a).start == s then n else found)

-- Of step k, from 0, the literals of its own condition are asked before it, then, after it, the over-all literals of
-- each action that runs then, in the order of the starts.
abbrev pub step_tests : TaskParts → List ℕ → ℕ → List (Blocked × Bool)
step_tests task steps k =
    let s = snap_of task (slice_index steps k) in
    let done = take (k + 1) steps in
    literal_tests (at_step s.kind (k + 1)) (facts_after task (take k steps)) s.condition
    ++ flat_map (λ a. literal_tests (λ n. blocked_by.OverAll (k + 1) n (start_number task a 1 done 0)) (facts_after task done) (action_of task a).over_all) (running task done)

-- the states of the list, all at time 0
abbrev pub list_trace : TaskParts → List ℕ → Trace
list_trace task steps = map (λ k. record { facts = facts_after task (take k steps); time = zeroℚ }) (numbers (length steps + 1))

-- A constraint may be met where the states of the list meet it; a `within`, where its formula holds in some state of
-- the list, and, if that is so at first, its moment isn't below 0.
abbrev pub may_be_met : TrailKind → Trail → Trace → Bool
may_be_met Within c xs = some (length xs) (λ k. at xs k (λ m. tree_holds c.first m.facts)) && (at xs 0 (λ m. tree_holds c.first m.facts) ⇒ (zeroℚ ≤? c.moment))
may_be_met kind c xs = met c xs

-- what an ordering is asked, step by step, then of the goal's literals, then of the hard constraints
unfoldable pub block_tests : TaskParts → List ℕ → List (Blocked × Bool)
block_tests task steps = flat_map (step_tests task steps) (numbers (length steps))
    ++ literal_tests blocked_by.Goal (facts_after task steps) task.goal
    ++ map (λ c. (blocked_by.Constraint c.0, may_be_met c.1.kind c.1 (list_trace task steps))) (enumerate_from 1 task.hard)

-- An ordering is blocked at the first of these that fails.
unfoldable pub blocked : TaskParts → List ℕ → Option Blocked
blocked task steps = option_map (λ b. b.0) (find (λ b. not b.1) (block_tests task steps))
