use Rattle.std.proofs.Common.{length}
use Rattle.exact_lin.specs.Forms.{shown}
use Rattle.exact_lin.proofs.Merge.{Keeping}
use Rattle.exact_lin.proofs.terms.keep_below.Given as goal

abbrev pub invariant-loop-first : goal.invariant-loop-first
invariant-loop-first g l = let shows = shown g.V.Id.number_of g.S.Scalar.value in
    Keeping l.number (shows l.fn.terms) (shows l.fn.sum.items) (shows l.sum.items) (shows l.rest)

abbrev pub decreases-loop-first : goal.decreases-loop-first
decreases-loop-first g l = length l.rest
