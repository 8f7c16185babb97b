use Rattle.lp_sparse.proofs.SolvedTerms.{scale-next, scale-fails}
use Rattle.lp_sparse.proofs.solving.scale_terms.Goals as goal

pub returns-in-Err-clause-wide : goal.returns-in-Err-clause-wide
returns-in-Err-clause-wide g c = λ _. scale-fails g.S.Scalar.value g.S.Scalar.limit c.args.row.now (g.S.Scalar.value c.args.y) (g.S.Scalar.value c.args.reciprocal) c.args.j c.loop-term.term-index c.term-item.result c.loop-term-test.true c.term-item.is c.in-Err.ensures

pub loop-term-preserved : goal.loop-term-preserved
loop-term-preserved g c = scale-next g.S.Scalar.value g.S.Scalar.limit c.args.row.now (g.S.Scalar.value c.args.y) (g.S.Scalar.value c.args.reciprocal) c.args.j c.loop-term.term-index c.term-item.result c.loop-term-test.true c.term-item.is
    c.loop-term.out.items c.push.new.items.items c.in-Ok.solved (c.in-Ok-push.ensures) c.in-Ok.ensures c.loop-term.invariant
