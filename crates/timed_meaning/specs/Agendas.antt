-- Believed: how a sweep stands to the happenings of a plan; a reader needs only what its calls say where this holds.
use Rattle.std.specs.Prelude.{ℕ, suc, ◌≡◌, ◌+◌, ◌-◌, ◌<◌, ◌≤◌, map, slice_index_or, List, [], ◌∷◌, ◌++◌, length, drop, take, IsPermutation}
use Rattle.std.specs.List.{AllByRecursion, filter}
use Rattle.rational.specs.Rational.{ℚ, zeroℚ}
use Rattle.task_types.specs.declared.parts.TaskParts.{TaskParts}
use Rattle.task_types.specs.Plan.{Plan, Step, end_of, happenings}
use Rattle.task_types.specs.Course.{steps_at, time_of, count}
use Rattle.task_types.specs.Reckoned.{by_start}
use Rattle.timed_meaning.specs.declared.agendas.Agenda.{Agenda}
use Rattle.timed_meaning.specs.declared.steps.OwnedStep.{OwnedStep}
use Rattle.timed_meaning.specs.declared.placing.PlacedLine.{PlacedLine}
use Rattle.timed_meaning.specs.Told.{AreSteps}
use Rattle.timed_meaning.specs.Moves.{AreLines}
use Rattle.timed_meaning.specs.Sorts.{NeverFall, at_time, run, times}
use Rattle.timed_meaning.specs.Owned.{owned_steps, steps_of, placed_lines, lines_of}
use Rattle.timed_meaning.specs.Places.{lasts_to, begun_by, AreRunning}

-- Of sorted steps these are left at happening k: their times are those of happening k and all later ones, and each of
-- these happenings has its steps.
pub record Left (task : TaskParts) (plan : Plan) (k : ℕ) (rest : List Step) : Type 0 where
  pub falls : NeverFall rest
  pub times_left : times rest ≡ drop k (happenings task plan)
  pub steps_left : AllByRecursion (λ t. at_time t rest ≡ steps_at task plan t) (times rest)

-- how many of some steps have the time of the first
abbrev pub run_end : List Step → ℕ
run_end [] = 0
run_end (x ∷ xs) = length (run x.time (x ∷ xs))

-- the time of a step at a place
abbrev pub time_at : List Step → ℕ → ℚ
time_at xs i = slice_index_or (map (λ s. s.time) xs) i zeroℚ

-- How the running lines are followed from the time of one step to that of a later one, where there is one: those that
-- end before it are dropped, those that have begun by now are put behind.
abbrev pub Follows : List Step → ℕ → ℕ → List PlacedLine → ℕ → ℕ → List PlacedLine → List PlacedLine → Type 0
Follows xs first next lines started now old new = next < length xs
    → (now ≡ started + length (begun_by (time_at xs first) (drop started lines)))
    × (new ≡ filter (lasts_to (time_at xs next)) old ++ filter (lasts_to (time_at xs next)) (begun_by (time_at xs first) (drop started lines)))

-- the steps of the agenda's happening
abbrev pub here_of : Agenda → List Step
here_of a = take (a.next - a.first) (drop a.first a.steps.items)

-- the same with their owners
abbrev pub owned_here_of : Agenda → List OwnedStep
owned_here_of a = take (a.next - a.first) (drop a.first a.owned.items)

-- Steps with their owners by their times and placed lines by their starts are listed for a plan where they are those of
-- the plan.
pub record AreListed (task : TaskParts) (plan : Plan) (all : List OwnedStep) (sorted : List PlacedLine) : Type 0 where
  pub falls : NeverFall (steps_of all)
  pub owned : IsPermutation (owned_steps task plan) all
  pub left : Left task plan 0 (steps_of all)
  pub known : AreSteps task (steps_of all)
  pub few : length (steps_of all) ≤ 8256
  pub lines : lines_of sorted ≡ by_start plan
  pub placed : IsPermutation (placed_lines plan) sorted
  pub lines_known : AreLines task (lines_of sorted)
  pub ends : AllByRecursion (λ p. p.end ≡ end_of p.line) sorted

-- An agenda is at the happening of its place: it has the steps of that happening and all later ones, the lines by their
-- starts, and those that run until the next happening.
pub record IsAt (task : TaskParts) (plan : Plan) (a : Agenda) : Type 0 where
  pub listed : AreListed task plan a.owned.items a.lines.items
  pub steps : a.steps.items ≡ steps_of a.owned.items
  pub left : Left task plan a.place (drop a.first a.steps.items)
  pub next : a.next ≡ a.first + run_end (drop a.first a.steps.items)
  pub within : a.next ≤ length a.steps.items
  pub counted : a.place ≤ a.first
  pub started : a.started ≤ length a.lines.items
  pub running : suc a.place < count task plan → AreRunning (time_of task plan a.place) (time_of task plan (suc a.place)) a.lines.items a.started a.running.items

-- an agenda of some plan
pub record IsSomewhere (a : Agenda) : Type 0 where
  pub task : TaskParts
  pub plan : Plan
  pub at : IsAt task plan a
