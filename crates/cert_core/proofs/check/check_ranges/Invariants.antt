use Rattle.std.proofs.Common.{drop, length}
use Rattle.cert_core.specs.Checks.{range_duties}
use Rattle.cert_core.specs.Faults.{multipliers_of}
use Rattle.basics.proofs.Duties.{ComesDownTo}
use Rattle.cert_core.proofs.check.check_ranges.Given as goal

abbrev pub invariant-loop-pair : goal.invariant-loop-pair
invariant-loop-pair g l = ComesDownTo
    (range_duties (length (g.P.Rows.program l.program).rows) 0 (multipliers_of g.R.Id.number_of g.S.Scalar.value l.pairs))
    (range_duties (length (g.P.Rows.program l.program).rows) l.least (multipliers_of g.R.Id.number_of g.S.Scalar.value (drop l.pair-index l.pairs)))
