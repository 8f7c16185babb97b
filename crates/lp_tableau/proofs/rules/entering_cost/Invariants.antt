use Rattle.lp_tableau.specs.Places.{FindsFirst, IsLesser}
use Rattle.lp_tableau.specs.Chains.{IsCheaper}
use Rattle.lp_tableau.specs.Tableaus.{dictionary_of}
use Rattle.lp_tableau.proofs.rules.entering_cost.Given as goal

abbrev pub invariant-loop-j : goal.invariant-loop-j
invariant-loop-j g l = FindsFirst (IsCheaper (dictionary_of g.S.Scalar.value l.t)) (IsLesser l.t.nonbasic.items) l.j l.best
