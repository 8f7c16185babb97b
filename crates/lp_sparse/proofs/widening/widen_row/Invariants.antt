use Rattle.std.proofs.Common.{◌≡◌, take}
use Rattle.lp_sparse.proofs.widening.widen_row.Given as goal

abbrev pub invariant-loop-term : goal.invariant-loop-term
invariant-loop-term l = l.wide.items ≡ take l.term-index l.row
