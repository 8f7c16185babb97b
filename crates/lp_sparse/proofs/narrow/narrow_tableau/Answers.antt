use Rattle.std.proofs.Common.{◌≡◌, ◌∙◌, ap, sym, subst, refl}
use Rattle.rational.specs.Rational.{ℚ}
use Rattle.exact_lin.specs.Reckoning.{narrow_limit}
use Rattle.lp_sparse.specs.declared.tableau.Tableau.{Tableau}
use Rattle.lp_sparse.specs.SparseRows.{terms_of, terms_of_rows}
use Rattle.lp_sparse.specs.NarrowNumbers.{TermsFit, RowTermsFit}
use Rattle.lp_sparse.proofs.NarrowParts.{found, missing, narrow-numbers, narrow-rows_fit, narrow-cost_fits, narrowed-rows, narrowed-dictionary}
use Rattle.lp_sparse.proofs.narrow.narrow_tableau.Goals as goal

pub returns-in-Some-2 : goal.returns-in-Some-2
returns-in-Some-2 c =
    let t : Tableau ℚ = c.args.t in
    let u : Tableau ℚ = record { basic = t.basic; nonbasic = t.nonbasic; rows = c.in-Some.rows; cost = c.in-Some-2.cost; marks = t.marks } in
    let rows = found _ _ _ _ c.in-Some.is c.in_ok-rows.ensures in
    let cost = found _ _ _ _ c.in-Some-2.is c.in_ok-cost-in-Some.ensures in
    let rows_fit : RowTermsFit narrow_limit (terms_of_rows (λ q. q) t.rows.items) = subst (λ xs. RowTermsFit narrow_limit (terms_of_rows (λ q. q) xs)) c.deref.ensures.value rows.0 in
    let cost_fits : TermsFit narrow_limit (terms_of (λ q. q) t.cost.items) = subst (λ xs. TermsFit narrow_limit (terms_of (λ q. q) xs)) c.deref-in-Some.ensures.value cost.0 in
    let rows_are : terms_of_rows (λ q. q) u.rows.items ≡ terms_of_rows (λ q. q) t.rows.items = rows.1 ∙ ap (λ xs. terms_of_rows (λ q. q) xs) c.deref.ensures.value in
    let cost_is : u.cost.items ≡ t.cost.items = cost.1 ∙ c.deref-in-Some.ensures.value in (
      narrow-numbers t c.requires rows_fit cost_fits,
      narrowed-rows t c.requires u refl refl refl rows_are cost_is rows_fit cost_fits,
      narrowed-dictionary t c.requires u refl refl refl rows_are cost_is rows_fit cost_fits,
    )

pub returns-in-None-2 : goal.returns-in-None-2
returns-in-None-2 c = λ f. (missing _ _ _ c.in-None-2.is c.in_ok-cost-in-Some.ensures) (subst (λ xs. TermsFit narrow_limit (terms_of (λ q. q) xs)) (sym c.deref-in-Some.ensures.value) (narrow-cost_fits c.args.t c.requires f))

pub returns-in-None : goal.returns-in-None
returns-in-None c = λ f. (missing _ _ _ c.in-None.is c.in_ok-rows.ensures) (subst (λ xs. RowTermsFit narrow_limit (terms_of_rows (λ q. q) xs)) (sym c.deref.ensures.value) (narrow-rows_fit c.args.t c.requires f))
