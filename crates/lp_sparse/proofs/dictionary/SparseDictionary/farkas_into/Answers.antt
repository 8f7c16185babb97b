use Rattle.lp_sparse.specs.SparseTableaus.{dictionary_of}
use Rattle.lp_sparse.proofs.Walking.{found-proves}
use Rattle.lp_sparse.proofs.dictionary.SparseDictionary.farkas_into.Goals as goal

pub returns-in-Some-clause-proves : goal.returns-in-Some-clause-proves
returns-in-Some-clause-proves g c = λ p h. found-proves (dictionary_of g.S.Scalar.value c.self.inside.tableau) c.args.self.now c.self.view_is c.self.invariant.dictionary c.requires.infeasible c.in-Some.i c.in-Some.ensures p h _ c.write_farkas.ensures
