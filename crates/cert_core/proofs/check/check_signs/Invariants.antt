use Rattle.std.proofs.Common.{drop}
use Rattle.cert_core.specs.Checks.{sign_duties}
use Rattle.cert_core.specs.Faults.{multipliers_of}
use Rattle.basics.proofs.Duties.{ComesDownTo}
use Rattle.cert_core.proofs.check.check_signs.Given as goal

abbrev pub invariant-loop-pair : goal.invariant-loop-pair
invariant-loop-pair g l = ComesDownTo
    (sign_duties (multipliers_of g.R.Id.number_of g.S.Scalar.value l.pairs))
    (sign_duties (multipliers_of g.R.Id.number_of g.S.Scalar.value (drop l.pair-index l.pairs)))
