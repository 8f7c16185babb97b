use Rattle.std.proofs.Common.{length, take}
use Rattle.lp_tableau.specs.Places.{FindsFirst, IsLesser}
use Rattle.lp_sparse.specs.SparseRows.{terms_of}
use Rattle.lp_sparse.specs.Directions.{Points}
use Rattle.lp_sparse.proofs.rules.least_of.Given as goal

abbrev pub invariant-loop-term : goal.invariant-loop-term
invariant-loop-term g l = FindsFirst (Points l.wanted (take l.term-index (terms_of g.S.Scalar.value l.row))) (IsLesser l.variables) (length l.variables) l.best
