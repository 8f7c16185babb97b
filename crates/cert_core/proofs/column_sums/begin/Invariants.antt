use Rattle.std.proofs.Common.{◌≡◌, length}
use Rattle.cert_core.specs.Checks.{claim_of, column_start}
use Rattle.cert_core.proofs.AddedSums.{HaveBegun}
use Rattle.cert_core.proofs.column_sums.begin.Given as goal

abbrev pub invariant-loop-number : goal.invariant-loop-number
invariant-loop-number g l = (length l.sums ≡ length (g.P.Rows.program l.program).costs)
    × HaveBegun g.S.Scalar.value g.S.Scalar.limit (column_start (g.P.Rows.program l.program) (claim_of g.S.Scalar.value l.claim)) l.sums l.number
