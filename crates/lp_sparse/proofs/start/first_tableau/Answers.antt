use Rattle.std.proofs.Common.{◌≡◌, ◌∙◌, ap, ap₂, ℕ, List, subst}
use Rattle.std.specs.List.{range_with_len}
use Rattle.lp_sparse.specs.declared.tableau.Tableau.{Tableau}
use Rattle.lp_sparse.specs.SparseRows.{terms_of_rows}
use Rattle.lp_sparse.specs.ColumnMarks.{marks_of, AreMarked}
use Rattle.lp_sparse.proofs.FirstRows.{first-rows, first-dictionary}
use Rattle.lp_sparse.proofs.start.first_tableau.Goals as goal

pub returns-clause-rows : goal.returns-clause-rows
returns-clause-rows g c =
    let t : Tableau g.row.S.Denot = record { basic = c.in_ok-basic.basic; nonbasic = c.in_ok-nonbasic.nonbasic; rows = c.in_ok-rows.rows; cost = c.in_ok-cost.cost; marks = c.in_ok-marks.marks } in
    first-rows g.S.Scalar.value g.S.Scalar.limit (g.P.Rows.program c.args.program.now) t
    (c.in_ok-basic.ensures ∙ ap₂ (λ (a b : ℕ). range_with_len a b) c.var_count-variables.ensures c.row_count.ensures) (c.in_ok-nonbasic.ensures ∙ ap (λ (n : ℕ). range_with_len 0 n) c.var_count-variables.ensures)
    c.in_ok-rows.ensures.rows c.in_ok-rows.ensures.gives c.in_ok-cost.ensures
    (subst (λ rows. AreMarked (marks_of c.in_ok-marks.marks.items) (terms_of_rows g.S.Scalar.value rows)) c.deref.ensures.value c.in_ok-marks.ensures)

pub returns-clause-dictionary : goal.returns-clause-dictionary
returns-clause-dictionary g c =
    let t : Tableau g.row.S.Denot = record { basic = c.in_ok-basic.basic; nonbasic = c.in_ok-nonbasic.nonbasic; rows = c.in_ok-rows.rows; cost = c.in_ok-cost.cost; marks = c.in_ok-marks.marks } in
    first-dictionary g.S.Scalar.value g.S.Scalar.limit (g.P.Rows.program c.args.program.now) t
    (c.in_ok-basic.ensures ∙ ap₂ (λ (a b : ℕ). range_with_len a b) c.var_count-variables.ensures c.row_count.ensures) (c.in_ok-nonbasic.ensures ∙ ap (λ (n : ℕ). range_with_len 0 n) c.var_count-variables.ensures)
    c.in_ok-rows.ensures.rows c.in_ok-rows.ensures.gives c.in_ok-cost.ensures
