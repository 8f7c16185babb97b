use Rattle.std.proofs.Common.{◌≡◌, ◌≤◌, length, drop}
use Rattle.task_types.specs.Trace.{Trace}
use Rattle.timed_meaning.specs.Answers.{told}
use Rattle.metric_cost.specs.Watching.{WatchEach}
use Rattle.metric_cost.proofs.Adding.{GoesOn}
use Rattle.metric_cost.proofs.terms.add_costs.Given as goal

abbrev pub invariant-loop-i : goal.invariant-loop-i
invariant-loop-i l = (states : Trace) → WatchEach l.softs l.watches states → GoesOn states (told l.facts l.fluents) l.fn.start l.softs l.sum (drop l.i l.softs)
