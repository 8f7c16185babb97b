use Rattle.lp_tableau.proofs.FarkasPlaces.{found-proves}
use Rattle.lp_tableau.proofs.dictionary.Dictionary.farkas_into.Goals as goal

pub returns-in-Some-clause-proves : goal.returns-in-Some-clause-proves
returns-in-Some-clause-proves g c = λ p h. found-proves g.S.Scalar.value c.self.inside.tableau c.args.self.now c.self.view_is c.self.invariant.dictionary c.requires.infeasible c.in-Some.i (c.in-Some.ensures {u = tt}) p h _ c.write_farkas.ensures
