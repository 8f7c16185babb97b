use Rattle.lp_tableau.specs.Chains.{Leads}
use Rattle.lp_sparse.specs.SparseTableaus.{IsSound, dictionary_of}
use Rattle.lp_sparse.proofs.walk.walk.Given as goal

abbrev pub invariant-loop-made : goal.invariant-loop-made
invariant-loop-made g l = IsSound g.S.Scalar.value g.S.Scalar.limit l.t × Leads g.S.Scalar.limit (dictionary_of g.S.Scalar.value l.fn.t) l.made (dictionary_of g.S.Scalar.value l.t)
