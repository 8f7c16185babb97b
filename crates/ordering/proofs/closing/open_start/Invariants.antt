use Rattle.std.proofs.Common.{◌≡◌, drop}
use Rattle.ordering.specs.Refusals.{first_open}
use Rattle.ordering.proofs.closing.open_start.Given as goal

abbrev pub invariant-loop-place : goal.invariant-loop-place
invariant-loop-place l = first_open l.task.parts 0 l.steps ≡ first_open l.task.parts l.place (drop l.place l.steps)
