use Rattle.std.proofs.Common.{length}
use Rattle.exact_lin.specs.Forms.{shown}
use Rattle.cert_core.proofs.AddedSums.{Adding}
use Rattle.cert_core.proofs.column_sums.add_terms.Given as goal

abbrev pub invariant-loop-term : goal.invariant-loop-term
invariant-loop-term g l = let shows = shown g.V.Id.number_of g.S.Scalar.value in
    Adding g.S.Scalar.value g.S.Scalar.limit (g.S.Scalar.value l.y) (shows l.fn.terms) l.fn.sums l.sums (shows l.left)

abbrev pub decreases-loop-term : goal.decreases-loop-term
decreases-loop-term g l = length l.left
