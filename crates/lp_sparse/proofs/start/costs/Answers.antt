use Rattle.std.proofs.Common.{◌≡◌, ◌<◌, ◌+◌, ◌∙◌, ◌++◌, ◌∷◌, [], ap, sym, refl, length, arith}
use Rattle.cert_core.specs.Programs.{cost_of}
use Rattle.lp_sparse.specs.SparseRows.{terms_of}
use Rattle.lp_sparse.proofs.FirstRows.{RowOf-start, RowOf-next, RowOf-last, with_last-first, with_last-length}
use Rattle.lp_sparse.proofs.start.costs.Goals as goal

pub loop-v-init : goal.loop-v-init
loop-v-init g c = RowOf-start g.S.Scalar.value g.S.Scalar.limit ((g.P.Rows.program c.args.program.now).costs ++ (g.P.Rows.program c.args.program.now).base ∷ []) c.new-row.result.items c.new-row.ensures.items

pub loop-v-preserved : goal.loop-v-preserved
loop-v-preserved g c =
    let p = g.P.Rows.program c.args.program.now in
    let short : c.loop-v.v < length p.costs = omega (arith, c.var_count-variables.ensures) in
    RowOf-next g.S.Scalar.limit (p.costs ++ p.base ∷ []) c.loop-v.v (g.S.Scalar.value c.cost.result) (terms_of g.S.Scalar.value c.loop-v.row.items) _ (omega (arith, short, with_last-length p.costs p.base (length p.costs) refl))
    (c.cost.ensures ∙ ap (cost_of p) c.of.ensures ∙ sym (with_last-first p.costs p.base c.loop-v.v short))
    c.push_term.ensures.fits c.in_ok-push_term.ensures.terms c.loop-v.invariant

pub returns : goal.returns
returns g c =
    let p = g.P.Rows.program c.args.program.now in
    let all : c.loop-v.v ≡ length p.costs = omega (arith, c.var_count-variables.ensures) in
    RowOf-last g.S.Scalar.limit p.costs p.base (length p.costs) c.loop-v.v c.var_count-variables.result (g.S.Scalar.value c.base.result) (terms_of g.S.Scalar.value c.loop-v.row.items) _
    refl all c.var_count-variables.ensures c.base.ensures c.push_term-2.ensures.fits c.in_ok-push_term-2.ensures.terms c.loop-v.invariant
