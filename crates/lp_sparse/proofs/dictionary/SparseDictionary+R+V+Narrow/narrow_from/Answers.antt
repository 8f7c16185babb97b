use Rattle.std.proofs.Common.{◌∙◌, subst, sym}
use Rattle.lp_tableau.specs.Meanings.{IsDictionary, StandsFor}
use Rattle.lp_tableau.proofs.Initial.{IsDictionary-initial, StandsFor-initial}
use Rattle.lp_sparse.specs.NarrowNumbers.{HasNarrowNumbers}
use Rattle.lp_sparse.proofs.NarrowParts.{found, missing, IsNarrow-initial, initial-IsNarrow}
use Rattle.lp_sparse.proofs.dictionary.SparseDictionary+R+V+Narrow.narrow_from.Goals as goal

pub invariant_of-result : goal.invariant_of-result
invariant_of-result g c =
    let p = g.P.Rows.program c.args.program.now in
    let told = found _ _ _ _ c.in-Some.is c.in_ok-tableau.ensures in
    record {
      rows = told.1;
      dictionary = subst IsDictionary (sym (told.2 ∙ c.in_ok-wide.ensures.dictionary)) (IsDictionary-initial p (g.met.P.Rows.even c.args.program.now) c.requires);
    }

pub returns-in-Some-clause-value : goal.returns-in-Some-clause-value
returns-in-Some-clause-value g c =
    let p = g.P.Rows.program c.args.program.now in
    let told = found _ _ _ _ c.in-Some.is c.in_ok-tableau.ensures in
    (initial-IsNarrow p (g.met.P.Rows.even c.args.program.now) (subst HasNarrowNumbers c.in_ok-wide.ensures.dictionary told.0), told.2 ∙ c.in_ok-wide.ensures.dictionary)

pub returns-in-Some-clause-stands : goal.returns-in-Some-clause-stands
returns-in-Some-clause-stands g c =
    let p = g.P.Rows.program c.args.program.now in
    let told = found _ _ _ _ c.in-Some.is c.in_ok-tableau.ensures in
    subst (StandsFor p) (sym (told.2 ∙ c.in_ok-wide.ensures.dictionary)) (StandsFor-initial p (g.met.P.Rows.even c.args.program.now))

pub returns-in-None-clause-value : goal.returns-in-None-clause-value
returns-in-None-clause-value g c = λ n. missing _ _ _ c.in-None.is c.in_ok-tableau.ensures
    (subst HasNarrowNumbers (sym c.in_ok-wide.ensures.dictionary) (IsNarrow-initial (g.P.Rows.program c.args.program.now) (g.met.P.Rows.even c.args.program.now) n))
