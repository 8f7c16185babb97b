use Rattle.std.proofs.Common.{subst, sym, map}
use Rattle.lp_tableau.specs.RowLists.{shown_rows}
use Rattle.lp_tableau.specs.Pivots.{CanReplaceOthers}
use Rattle.lp_tableau.proofs.pivot.reckon_others.Goals as goal

pub returns-in-Err-clause-cases : goal.returns-in-Err-clause-cases
returns-in-Err-clause-cases g c = λ a. c.in-Err.ensures.cases (subst (λ rows. CanReplaceOthers g.S.Scalar.limit (map g.S.Scalar.value c.args.solution.now) c.args.i c.args.j (shown_rows g.S.Scalar.value rows)) (sym c.deref.ensures.value) a.others)
