-- Believed: steps in the order of their times.
use Rattle.std.specs.Prelude.{◌≡◌, false, if◌then◌else◌, List, [], ◌∷◌, map, IsPermutation}
use Rattle.std.specs.List.{AllByRecursion, filter}
use Rattle.rational.specs.Rational.{ℚ, ◌≤ℚ◌}
use Rattle.task_types.specs.Tests.{◌=?◌}
use Rattle.task_types.specs.Plan.{Plan, Step, ascending}
use Rattle.task_types.specs.Course.{runs_between}
use Rattle.task_types.specs.Reckoned.{by_start}

-- the times of some steps never fall
abbrev pub NeverFall : List Step → Type 0
NeverFall [] = Unit {0}
NeverFall (x ∷ xs) = AllByRecursion (λ y. x.time ≤ℚ y.time) xs × NeverFall xs

-- the steps at a time, in their order
abbrev pub at_time : ℚ → List Step → List Step
at_time t steps = filter (λ s. s.time =? t) steps

-- The second list has the steps of the first by their times, those of one time in their order.
pub record AreSorted (steps sorted : List Step) : Type 0 where
  pub falls : NeverFall sorted
  pub stable : (t : ℚ) → at_time t sorted ≡ at_time t steps
  pub permutation : IsPermutation steps sorted

-- the distinct times of some steps, ascending
abbrev pub times : List Step → List ℚ
times steps = ascending (map (λ s. s.time) steps)

-- the steps of a list before the first of another time, and the rest
abbrev pub run : ℚ → List Step → List Step
run t [] = []
run t (x ∷ xs) = if x.time =? t then (x ∷ run t xs) else []

abbrev pub after_run : ℚ → List Step → List Step
after_run t [] = []
after_run t (x ∷ xs) = if x.time =? t then after_run t xs else (x ∷ xs)

-- The first run of sorted steps is all the steps of their first time, and the rest has all others; so a pass over the sorted steps meets happening by happening, each with its steps in their order.
pub record RunsAreHappenings : Type 0 where
  pub first : (x : Step) (xs : List Step) → NeverFall (x ∷ xs) → run x.time (x ∷ xs) ≡ at_time x.time (x ∷ xs)
  pub rest : (x : Step) (xs : List Step) (t : ℚ) → NeverFall (x ∷ xs) → (t =? x.time) ≡ false → at_time t (after_run x.time (x ∷ xs)) ≡ at_time t (x ∷ xs)

-- The running lines of a plan in the order of their starts are those of the sorted plan.
abbrev pub RunningLinesAreFiltered : Type 0
RunningLinesAreFiltered = (plan : Plan) (from to : ℚ) → by_start (filter (runs_between from to) plan) ≡ filter (runs_between from to) (by_start plan)
