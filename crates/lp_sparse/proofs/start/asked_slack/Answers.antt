use Rattle.std.proofs.Common.{◌≡◌, ◌<◌, ◌+◌, ◌∙◌, ap, map, length, arith, sym, subst, ℕ}
use Rattle.rational.specs.Rational.{neg_ℚ}
use Rattle.rational.specs.Rows.{row_at}
use Rattle.cert_core.specs.Programs.{entry_of}
use Rattle.lp_tableau.specs.Dictionaries.{slack_row}
use Rattle.lp_sparse.specs.SparseRows.{terms_of}
use Rattle.lp_sparse.proofs.FirstRows.{RowOf-start, RowOf-next, RowOf-last, slack-entry, factors-length, with_last-length}
use Rattle.lp_sparse.proofs.start.asked_slack.Goals as goal

pub loop-v-init : goal.loop-v-init
loop-v-init g c = RowOf-start g.S.Scalar.value g.S.Scalar.limit (slack_row (row_at (g.P.Rows.program c.args.program.now).rows (g.R.Id.number_of c.args.r))) c.new-row.result.items c.new-row.ensures.items

pub loop-v-preserved : goal.loop-v-preserved
loop-v-preserved g c =
    let p = g.P.Rows.program c.args.program.now in
    let r = g.R.Id.number_of c.args.r in
    let even = g.met.P.Rows.even c.args.program.now in
    let long = with_last-length (map neg_ℚ (row_at p.rows r).factors) (row_at p.rows r).bound (length p.costs) (factors-length p even r c.requires) in
    let short : c.loop-v.v < length p.costs = omega (arith, c.var_count-variables.ensures) in
    RowOf-next g.S.Scalar.limit (slack_row (row_at p.rows r)) c.loop-v.v (g.S.Scalar.value c.neg.result) (terms_of g.S.Scalar.value c.loop-v.row.items) _ (omega (arith, long, short))
    (c.neg.ensures ∙ ap neg_ℚ (c.entry.ensures ∙ ap (entry_of p r) c.of.ensures) ∙ slack-entry p even r c.requires c.loop-v.v short)
    c.push_term.ensures.fits c.in_ok-push_term.ensures.terms c.loop-v.invariant

pub returns : goal.returns
returns g c =
    let p = g.P.Rows.program c.args.program.now in
    let r = g.R.Id.number_of c.args.r in
    let all : c.loop-v.v ≡ length p.costs = omega (arith, c.var_count-variables.ensures) in
    RowOf-last g.S.Scalar.limit (map neg_ℚ (row_at p.rows r).factors) (row_at p.rows r).bound (length p.costs) c.loop-v.v c.var_count-variables.result (g.S.Scalar.value c.bound.result) (terms_of g.S.Scalar.value c.loop-v.row.items) _
    (factors-length p (g.met.P.Rows.even c.args.program.now) r c.requires) all c.var_count-variables.ensures c.bound.ensures c.push_term-2.ensures.fits c.in_ok-push_term-2.ensures.terms c.loop-v.invariant
