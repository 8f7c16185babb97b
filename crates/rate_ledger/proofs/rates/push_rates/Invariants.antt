use Rattle.std.proofs.Common.{◌≡◌, ◌++◌, take}
use Rattle.task_types.specs.Course.{entries_of}
use Rattle.rate_ledger.proofs.rates.push_rates.Given as goal

abbrev pub invariant-loop-rate : goal.invariant-loop-rate
invariant-loop-rate l = l.out ≡ l.fn.out ++ entries_of l.fluent (take l.rate-index l.rates)
