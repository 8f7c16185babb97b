use Rattle.std.proofs.Common.{length}
use Rattle.exact_lin.specs.Forms.{shown}
use Rattle.exact_lin.proofs.Merge.{Merging}
use Rattle.exact_lin.proofs.terms.merge.Given as goal

abbrev pub invariant-loop-term : goal.invariant-loop-term
invariant-loop-term g l = let number = g.V.Id.number_of in let value = g.S.Scalar.value in
    Merging g.S.Scalar.limit (value l.by) (shown number value l.fn.one) (shown number value l.fn.other) (shown number value l.sum.items) (shown number value l.left) (shown number value l.right)

abbrev pub decreases-loop-term : goal.decreases-loop-term
decreases-loop-term g l = length l.right
