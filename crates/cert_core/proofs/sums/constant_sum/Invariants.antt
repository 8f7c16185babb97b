use Rattle.std.proofs.Common.{drop}
use Rattle.cert_core.specs.Checks.{claim_of, constant_start, constant_terms}
use Rattle.cert_core.specs.Faults.{multipliers_of}
use Rattle.exact_lin.proofs.Reckonings.{GoesOn}
use Rattle.cert_core.proofs.sums.constant_sum.Given as goal

abbrev pub invariant-loop-pair : goal.invariant-loop-pair
invariant-loop-pair g l = GoesOn g.S.Scalar.limit
    (constant_start (g.P.Rows.program l.program) (claim_of g.S.Scalar.value l.claim)) (constant_terms (g.P.Rows.program l.program) (claim_of g.S.Scalar.value l.claim) (multipliers_of g.R.Id.number_of g.S.Scalar.value l.pairs))
    (g.S.Scalar.value l.sum) (constant_terms (g.P.Rows.program l.program) (claim_of g.S.Scalar.value l.claim) (multipliers_of g.R.Id.number_of g.S.Scalar.value (drop l.pair-index l.pairs)))
