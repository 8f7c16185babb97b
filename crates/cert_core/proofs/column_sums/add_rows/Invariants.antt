use Rattle.std.proofs.Common.{drop}
use Rattle.cert_core.specs.Checks.{claim_of}
use Rattle.cert_core.specs.Faults.{multipliers_of}
use Rattle.cert_core.proofs.AddedSums.{SumsGoOn}
use Rattle.cert_core.proofs.column_sums.add_rows.Given as goal

abbrev pub invariant-loop-pair : goal.invariant-loop-pair
invariant-loop-pair g l = SumsGoOn g.S.Scalar.value g.S.Scalar.limit (g.P.Rows.program l.program) (claim_of g.S.Scalar.value l.fn.claim) (multipliers_of g.R.Id.number_of g.S.Scalar.value l.pairs)
    (multipliers_of g.R.Id.number_of g.S.Scalar.value (drop l.pair-index l.pairs)) l.sums
