use Rattle.std.proofs.Common.{◌≡◌, ◌+◌, drop}
use Rattle.task_types.specs.Blocking.{start_number}
use Rattle.lp_rows.proofs.watching.start_number.Given as goal

abbrev pub invariant-loop-place : goal.invariant-loop-place
invariant-loop-place l = start_number l.fn.task.parts l.fn.action 1 l.steps 0 ≡ start_number l.fn.task.parts l.fn.action (l.place + 1) (drop l.place l.steps) l.found
