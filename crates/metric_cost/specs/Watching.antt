-- Believed: what the watchers of soft terms have seen of a trace; a reader needs only what their calls say where this
-- holds.
use Rattle.std.specs.Prelude.{◌≡◌, Bool, List, [], ◌∷◌, Option}
use Rattle.rational.specs.Rational.{ℚ}
use Rattle.task_types.specs.declared.constraints.Trail.{Trail}
use Rattle.task_types.specs.declared.constraints.TrailKind.TheVariants.{Within}
use Rattle.task_types.specs.declared.costs.Soft.{Soft}
use Rattle.task_types.specs.declared.costs.Soft.TheVariants as soft
use Rattle.task_types.specs.declared.formulas.FactTree.{FactTree}
use Rattle.task_types.specs.declared.parts.TaskParts.{TaskParts}
use Rattle.task_types.specs.Trace.{Trace, met, first_moment}
use Rattle.trajectory.specs.Following.{Follows, constraint_of}
use Rattle.metric_cost.specs.declared.watch.Watch.{Watch}
use Rattle.metric_cost.specs.declared.watch.Watch.TheVariants.{Followed, Soon, First, Last}
use Rattle.metric_cost.specs.declared.watchers.CostWatchers.{CostWatchers}

-- A `within` is watched by whether the states so far meet it; every other constraint by an automaton that follows it.
abbrev pub WatchesTrail : Trail → Watch → Trace → Type 0
WatchesTrail c (Followed automaton) xs = (constraint_of automaton ≡ c) × Follows automaton xs × ¬ (c.kind ≡ Within)
WatchesTrail c (Soon b) xs = (c.kind ≡ Within) × (b ≡ met c xs)
WatchesTrail c (First m) xs = ⊥
WatchesTrail c Last xs = ⊥

-- A time cost is watched by the first moment of its formula so far.
abbrev pub WatchesFirst : FactTree → Watch → Trace → Type 0
WatchesFirst formula (Followed automaton) xs = ⊥
WatchesFirst formula (Soon b) xs = ⊥
WatchesFirst formula (First m) xs = m ≡ first_moment formula xs
WatchesFirst formula Last xs = ⊥

-- Of a goal preference nothing is watched, since it looks at the last state alone.
abbrev pub Watches : Soft → Watch → Trace → Type 0
Watches (soft.Trail c weight) w xs = WatchesTrail c w xs
Watches (soft.Goal formula forms weight) w xs = Unit {0}
Watches (soft.Late formula c weight) w xs = WatchesFirst formula w xs
Watches (soft.Pieces formula ps weight) w xs = WatchesFirst formula w xs

-- each of some soft terms by its own watcher
abbrev pub WatchEach : List Soft → List Watch → Trace → Type 0
WatchEach [] [] xs = Unit {0}
WatchEach [] (w ∷ ws) xs = ⊥
WatchEach (s ∷ ss) [] xs = ⊥
WatchEach (s ∷ ss) (w ∷ ws) xs = Watches s w xs × WatchEach ss ws xs

-- The watchers have seen these states of a trace, from its first on, for the soft terms of a task.
abbrev pub HaveSeen : TaskParts → CostWatchers → Trace → Type 0
HaveSeen task ws xs = WatchEach task.soft ws.watches.items xs
