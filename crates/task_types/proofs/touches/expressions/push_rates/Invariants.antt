use Rattle.std.proofs.Common.{◌≡◌, ◌++◌, map, take}
use Rattle.task_types.proofs.touches.expressions.push_rates.Given as goal

abbrev pub invariant-loop-rate : goal.invariant-loop-rate
invariant-loop-rate l = l.out ≡ l.fn.out ++ map (λ r. r.0) (take l.rate-index l.rates)
