use Rattle.std.proofs.Common.{◌≡◌, ◌++◌, ◌∷◌, [], length}
use Rattle.task_types.specs.Trace.{Trace}
use Rattle.trajectory.specs.Facts.{moment_of}
use Rattle.metric_cost.specs.Watching.{WatchEach}
use Rattle.metric_cost.proofs.Watching.{SeenUpTo}
use Rattle.metric_cost.proofs.watch_lists.step_all.Given as goal

abbrev pub invariant-loop-i : goal.invariant-loop-i
invariant-loop-i l = (states : Trace) → WatchEach l.softs l.initial.watches states → SeenUpTo l.i l.softs l.watches states (states ++ moment_of l.facts l.time ∷ [])
