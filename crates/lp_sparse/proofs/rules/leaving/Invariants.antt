use Rattle.lp_tableau.specs.Places.{FindsFirst, IsLesser}
use Rattle.lp_tableau.specs.Chains.{IsNegative}
use Rattle.lp_sparse.specs.SparseTableaus.{dictionary_of}
use Rattle.lp_sparse.proofs.rules.leaving.Given as goal

abbrev pub invariant-loop-i : goal.invariant-loop-i
invariant-loop-i g l = FindsFirst (IsNegative (dictionary_of g.S.Scalar.value l.t)) (IsLesser l.t.basic.items) l.i l.best
