use Rattle.std.proofs.Common.{drop}
use Rattle.cert_core.specs.Checks.{column_terms}
use Rattle.cert_core.specs.Faults.{multipliers_of}
use Rattle.exact_lin.proofs.Reckonings.{GoesOn}
use Rattle.cert_core.proofs.sums.column_sum.Given as goal

abbrev pub invariant-loop-pair : goal.invariant-loop-pair
invariant-loop-pair g l = GoesOn g.S.Scalar.limit
    (g.S.Scalar.value l.fn.start) (column_terms (g.P.Rows.program l.program) (multipliers_of g.R.Id.number_of g.S.Scalar.value l.pairs) (g.V.Id.number_of l.v))
    (g.S.Scalar.value l.sum) (column_terms (g.P.Rows.program l.program) (multipliers_of g.R.Id.number_of g.S.Scalar.value (drop l.pair-index l.pairs)) (g.V.Id.number_of l.v))
