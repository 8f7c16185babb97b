use Rattle.std.proofs.Common.{◌-◌, length}
use Rattle.cert_core.specs.Checks.{claim_of, columns_duties}
use Rattle.cert_core.specs.Faults.{multipliers_of}
use Rattle.basics.proofs.Duties.{ComesDownTo}
use Rattle.cert_core.proofs.column_sums.check_columns_in.Given as goal

abbrev pub invariant-loop-number : goal.invariant-loop-number
invariant-loop-number g l = ComesDownTo
    (columns_duties g.S.Scalar.limit (g.P.Rows.program l.program) (claim_of g.S.Scalar.value l.fn.claim) (multipliers_of g.R.Id.number_of g.S.Scalar.value l.pairs) 0 (length (g.P.Rows.program l.program).costs))
    (columns_duties g.S.Scalar.limit (g.P.Rows.program l.program) (claim_of g.S.Scalar.value l.fn.claim) (multipliers_of g.R.Id.number_of g.S.Scalar.value l.pairs) l.number (length (g.P.Rows.program l.program).costs - l.number))
