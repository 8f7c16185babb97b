use Rattle.std.proofs.Common.{◌≡◌, ◌≤◌, drop}
use Rattle.task_types.specs.Blocking.{start_number}
use Rattle.rate_ledger.proofs.ends.last_start.Given as goal

abbrev pub invariant-loop-place : goal.invariant-loop-place
invariant-loop-place l = (l.found ≤ l.place) × (start_number l.fn.task.parts l.fn.action 0 l.steps 0 ≡ start_number l.fn.task.parts l.fn.action l.place (drop l.place l.steps) l.found)
