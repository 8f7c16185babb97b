use Rattle.std.proofs.Common.{drop}
use Rattle.rate_ledger.proofs.Summing.{Summed}
use Rattle.rate_ledger.proofs.rates.sum_of.Given as goal

abbrev pub invariant-loop-number : goal.invariant-loop-number
invariant-loop-number l = Summed l.numbers l.sum (drop l.number-index l.numbers)
