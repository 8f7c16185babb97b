use Rattle.std.proofs.Common.{◌≡◌, ◌∷◌, drop}
use Rattle.std.specs.List.{flat_map}
use Rattle.task_types.specs.Cost.{greatest, total_time}
use Rattle.metric_cost.proofs.Latest.{times}
use Rattle.metric_cost.proofs.total_time.total_time.Given as goal

abbrev pub invariant-loop-line : goal.invariant-loop-line
invariant-loop-line l = greatest (l.last ∷ flat_map times (drop l.line-index l.rest)) ≡ total_time l.lines
