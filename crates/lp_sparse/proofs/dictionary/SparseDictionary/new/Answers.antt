use Rattle.std.proofs.Common.{subst, sym}
use Rattle.lp_tableau.specs.Meanings.{IsDictionary, StandsFor}
use Rattle.lp_tableau.proofs.Initial.{IsDictionary-initial, StandsFor-initial}
use Rattle.lp_sparse.proofs.dictionary.SparseDictionary.new.Goals as goal

pub invariant_of-result : goal.invariant_of-result
invariant_of-result g c = record {
  rows = c.in_ok-tableau.ensures.rows;
  dictionary = subst IsDictionary (sym c.in_ok-tableau.ensures.dictionary) (IsDictionary-initial (g.P.Rows.program c.args.program.now) (g.met.P.Rows.even c.args.program.now) c.requires);
}

pub returns-clause-stands : goal.returns-clause-stands
returns-clause-stands g c = subst (StandsFor (g.P.Rows.program c.args.program.now)) (sym c.in_ok-tableau.ensures.dictionary) (StandsFor-initial (g.P.Rows.program c.args.program.now) (g.met.P.Rows.even c.args.program.now))
