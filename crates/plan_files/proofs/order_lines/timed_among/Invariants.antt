use Rattle.std.proofs.Common.{◌≡◌, drop}
use Rattle.std.specs.Prelude.{find}
use Rattle.task_types.specs.Tests.{◌=?◌}
use Rattle.plan_files.proofs.order_lines.timed_among.Given as goal

abbrev pub invariant-loop-step : goal.invariant-loop-step
invariant-loop-step l = find (λ t. t.0 =? l.moment) l.timed ≡ find (λ t. t.0 =? l.moment) (drop l.step-index l.timed)
