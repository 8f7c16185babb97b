use Rattle.std.proofs.Common.{◌∙◌, ap, sym, map, length, arith, subst, refl}
use Rattle.std.proofs.lemmas.List.{nil_from_length}
use Rattle.rational.specs.Rational.{neg_ℚ}
use Rattle.rational.specs.Rows.{row_at}
use Rattle.exact_lin.specs.Forms.{shown, Terms}
use Rattle.lp_tableau.specs.Dictionaries.{slack_row}
use Rattle.lp_sparse.specs.SparseRows.{terms_of}
use Rattle.lp_sparse.proofs.FirstRows.{Negates, Negates-begin, Negates-next, Negates-all, RowOf-last, slack-entry, factors-length, with_last-length, zero-fits}
use Rattle.lp_sparse.proofs.start.told_slack.Goals as goal

pub loop-term-init : goal.loop-term-init
loop-term-init g c =
    let p = g.P.Rows.program c.args.program.now in
    let r = g.R.Id.number_of c.args.r in
    let even = g.met.P.Rows.even c.args.program.now in
    subst (λ xs. Negates g.S.Scalar.limit (length p.costs) (slack_row (row_at p.rows r)) (terms_of g.S.Scalar.value xs) (shown g.V.Id.number_of g.S.Scalar.value c.args.terms.now)) (sym c.in_ok-row.ensures)
    (Negates-begin g.S.Scalar.limit (length p.costs) (slack_row (row_at p.rows r)) (shown g.V.Id.number_of g.S.Scalar.value c.args.terms.now) c.requires.told.ascends c.requires.told.within
    (λ k h. sym (slack-entry p even r c.requires.row k h) ∙ ap neg_ℚ (sym (c.requires.told.entries k h))))

pub loop-term-preserved : goal.loop-term-preserved
loop-term-preserved g c =
    let p = g.P.Rows.program c.args.program.now in
    let r = g.R.Id.number_of c.args.r in
    let even = g.met.P.Rows.even c.args.program.now in
    let long = with_last-length (map neg_ℚ (row_at p.rows r).factors) (row_at p.rows r).bound (length p.costs) (factors-length p even r c.requires.row) in
    let here = subst (λ (ts : Terms). Negates g.S.Scalar.limit (length p.costs) (slack_row (row_at p.rows r)) (terms_of g.S.Scalar.value c.loop-term.row.items) ts) (ap (shown g.V.Id.number_of g.S.Scalar.value) c.in-Some.ensures.cases.0) c.loop-term.invariant in
    Negates-next g.S.Scalar.limit (length p.costs) (slack_row (row_at p.rows r)) _ _ _ _ _ _ (omega (arith, long)) c.number.ensures c.neg.ensures c.push_term.ensures.fits c.in_ok-push_term.ensures.terms here

pub returns : goal.returns
returns g c =
    let p = g.P.Rows.program c.args.program.now in
    let r = g.R.Id.number_of c.args.r in
    let even = g.met.P.Rows.even c.args.program.now in
    let long = with_last-length (map neg_ℚ (row_at p.rows r).factors) (row_at p.rows r).bound (length p.costs) (factors-length p even r c.requires.row) in
    let all = subst (λ (ts : Terms). Negates g.S.Scalar.limit (length p.costs) (slack_row (row_at p.rows r)) (terms_of g.S.Scalar.value c.loop-term.row.items) ts) (ap (shown g.V.Id.number_of g.S.Scalar.value) (nil_from_length _ c.in_default.ensures.cases)) c.loop-term.invariant in
    RowOf-last g.S.Scalar.limit (map neg_ℚ (row_at p.rows r).factors) (row_at p.rows r).bound (length p.costs) (length p.costs) c.var_count.result (g.S.Scalar.value c.bound.result) (terms_of g.S.Scalar.value c.loop-term.row.items) _
    (factors-length p even r c.requires.row) refl c.var_count.ensures c.bound.ensures c.push_term-2.ensures.fits c.in_ok-push_term-2.ensures.terms
    (Negates-all g.S.Scalar.limit (length p.costs) (slack_row (row_at p.rows r)) (terms_of g.S.Scalar.value c.loop-term.row.items) (omega (arith, long)) (zero-fits g.S.Scalar.limit _ c.push_term-2.ensures.fits) all)
