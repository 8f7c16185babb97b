use Rattle.std.proofs.Common.{◌≡◌, false, take}
use Rattle.task_types.specs.Sets.{is_in}
use Rattle.ordering.proofs.running.place_of.Given as goal

abbrev pub invariant-loop-place : goal.invariant-loop-place
invariant-loop-place l = is_in l.action (take l.place l.running) ≡ false
