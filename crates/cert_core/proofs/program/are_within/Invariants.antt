use Rattle.std.proofs.Common.{◌↔◌, length}
use Rattle.exact_lin.specs.Forms.{Covers, shown}
use Rattle.cert_core.proofs.program.are_within.Given as goal

abbrev pub invariant-loop-term : goal.invariant-loop-term
invariant-loop-term g l = let shows = shown g.V.Id.number_of g.S.Scalar.value in
    Covers l.count (shows l.fn.terms) ↔ Covers l.count (shows l.left)

abbrev pub decreases-loop-term : goal.decreases-loop-term
decreases-loop-term g l = length l.left
