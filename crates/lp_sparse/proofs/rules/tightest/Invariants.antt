use Rattle.lp_sparse.specs.SparseTableaus.{dictionary_of}
use Rattle.lp_tableau.proofs.Ratios.{AreTightest}
use Rattle.lp_sparse.proofs.rules.tightest.Given as goal

abbrev pub invariant-loop-i : goal.invariant-loop-i
invariant-loop-i g l = AreTightest (dictionary_of g.S.Scalar.value l.t) l.j g.S.Scalar.value g.S.Scalar.limit l.best l.i
