use Rattle.lp_tableau.specs.Places.{FindsFirst, IsLesser}
use Rattle.lp_tableau.specs.Chains.{IsRaising}
use Rattle.lp_tableau.specs.Tableaus.{dictionary_of}
use Rattle.lp_tableau.proofs.rules.entering_row.Given as goal

abbrev pub invariant-loop-j : goal.invariant-loop-j
invariant-loop-j g l = FindsFirst (IsRaising (dictionary_of g.S.Scalar.value l.t) l.i) (IsLesser l.t.nonbasic.items) l.j l.best
