use Rattle.std.proofs.Common.{◌∙◌, ap, List, subst}
use Rattle.rational.specs.Rational.{ℚ}
use Rattle.lp_sparse.specs.declared.tableau.Tableau.{Tableau}
use Rattle.lp_sparse.specs.SparseRows.{terms_of_rows}
use Rattle.lp_sparse.specs.ColumnMarks.{marks_of, AreMarked}
use Rattle.lp_sparse.proofs.WiderParts.{widened-fits}
use Rattle.lp_sparse.proofs.widening.widen_tableau.Goals as goal

pub returns-clause-rows : goal.returns-clause-rows
returns-clause-rows c =
    let u : Tableau ℚ = record { basic = c.in_ok-basic.basic; nonbasic = c.in_ok-nonbasic.nonbasic; rows = c.in_ok-rows.rows; cost = c.in_ok-cost.cost; marks = c.in_ok-marks.marks } in
    widened-fits c.args.t.now u (c.in_ok-basic.ensures.items ∙ c.deref.ensures.value) (c.in_ok-nonbasic.ensures.items ∙ c.deref-2.ensures.value)
    (c.in_ok-rows.ensures ∙ ap (λ rows. terms_of_rows (λ q. q) rows) c.deref-3.ensures.value) (c.in_ok-cost.ensures ∙ c.deref-4.ensures.value) c.requires
    (subst (λ rows. AreMarked (marks_of c.in_ok-marks.marks.items) (terms_of_rows (λ q. q) rows)) c.deref-5.ensures.value c.in_ok-marks.ensures)
