use Rattle.std.proofs.Common.{ap}
use Rattle.cert_core.specs.Checks.{column_terms}
use Rattle.cert_core.specs.Faults.{multipliers_of}
use Rattle.cert_core.proofs.PartialSums.{GoesOn-rest, GoesOn-read, GoesOn-wide}
use Rattle.cert_core.proofs.sums.column_sum.Goals as goal
use Rattle.basics.proofs.Lists.{drop_item}

pub returns-in-Err : goal.returns-in-Err
returns-in-Err g c =
    let item = drop_item c.args.pairs.now c.loop-pair.pair-index c.pair-item.result c.loop-pair-test.true c.pair-item.is in
    GoesOn-wide _ _ _ _ _ _ _ _ c.entry.ensures c.in-Err.ensures
    (GoesOn-rest _ _ _ _ (ap (λ ys. column_terms (g.P.Rows.program c.args.program.now) (multipliers_of g.R.Id.number_of g.S.Scalar.value ys) (g.V.Id.number_of c.args.v)) item) c.loop-pair.invariant)

pub loop-pair-preserved : goal.loop-pair-preserved
loop-pair-preserved g c =
    let item = drop_item c.args.pairs.now c.loop-pair.pair-index c.pair-item.result c.loop-pair-test.true c.pair-item.is in
    GoesOn-read _ _ _ _ _ _ _ _ _ c.entry.ensures c.in-Ok.ensures.1 c.in-Ok.ensures.0
    (GoesOn-rest _ _ _ _ (ap (λ ys. column_terms (g.P.Rows.program c.args.program.now) (multipliers_of g.R.Id.number_of g.S.Scalar.value ys) (g.V.Id.number_of c.args.v)) item) c.loop-pair.invariant)
