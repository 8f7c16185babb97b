use Rattle.std.proofs.lemmas.List.{drop_all}
use Rattle.rate_ledger.proofs.Summing.{Summed-begin, Summed-next, Summed-stop, Summed-end}
use Rattle.rate_ledger.proofs.rates.sum_of.Goals as goal

pub loop-number-init : goal.loop-number-init
loop-number-init c = Summed-begin c.args.numbers.now c.of_int-sum.result c.of_int-sum.ensures

pub loop-number-preserved : goal.loop-number-preserved
loop-number-preserved c = Summed-next c.args.numbers.now c.loop-number.sum c.in-Ok.more c.number-item.result c.loop-number.number-index c.loop-number-test.true c.number-item.is c.in-Ok.ensures.0 c.in-Ok.ensures.1 c.loop-number.invariant

pub returns-in-Err : goal.returns-in-Err
returns-in-Err c = Summed-stop c.args.numbers.now c.loop-number.sum c.number-item.result c.loop-number.number-index c.loop-number-test.true c.number-item.is c.in-Err.ensures c.loop-number.invariant

pub returns : goal.returns
returns c = Summed-end c.args.numbers.now c.loop-number.sum _ (drop_all c.loop-number.number-index c.args.numbers.now c.loop-number-test.false) c.loop-number.invariant
