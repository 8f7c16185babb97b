use Rattle.std.proofs.Common.{◌≡◌, []}
use Rattle.std.specs.Prelude.{replicate}
use Rattle.task_types.proofs.touches.rows.empty_rows.Given as goal

abbrev pub invariant-loop : goal.invariant-loop
invariant-loop g l = l.rows.items ≡ replicate l.counter []
