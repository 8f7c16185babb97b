use Rattle.std.proofs.Common.{subst, sym}
use Rattle.lp_tableau.specs.Dictionaries.{IsEven}
use Rattle.lp_tableau.specs.Meanings.{IsDictionary, StandsFor}
use Rattle.lp_tableau.proofs.Initial.{AreEven-from, IsEven-initial, IsDictionary-initial, StandsFor-initial}
use Rattle.lp_tableau.proofs.dictionary.Dictionary.new.Goals as goal

pub room_for-requires : goal.room_for-requires
room_for-requires g c = AreEven-from g.S.Scalar.value c.in_ok-tableau.tableau (subst IsEven (sym ((c.in_ok-tableau.ensures {u = tt}).dictionary)) (IsEven-initial (g.P.Rows.program c.args.program.now) (g.met.P.Rows.even c.args.program.now)))

pub invariant_of-result : goal.invariant_of-result
invariant_of-result g c = record {
  even = AreEven-from g.S.Scalar.value c.in_ok-tableau.tableau (subst IsEven (sym ((c.in_ok-tableau.ensures {u = tt}).dictionary)) (IsEven-initial (g.P.Rows.program c.args.program.now) (g.met.P.Rows.even c.args.program.now)));
  fits = (c.in_ok-tableau.ensures {u = tt}).fits;
  room = c.in_ok-room.ensures {u = tt};
  dictionary = subst IsDictionary (sym ((c.in_ok-tableau.ensures {u = tt}).dictionary)) (IsDictionary-initial (g.P.Rows.program c.args.program.now) (g.met.P.Rows.even c.args.program.now) c.requires);
}

pub returns-clause-stands : goal.returns-clause-stands
returns-clause-stands g c = subst (StandsFor (g.P.Rows.program c.args.program.now)) (sym ((c.in_ok-tableau.ensures {u = tt}).dictionary)) (StandsFor-initial (g.P.Rows.program c.args.program.now) (g.met.P.Rows.even c.args.program.now))
