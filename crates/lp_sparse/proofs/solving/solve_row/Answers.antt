use Rattle.std.proofs.Common.{◌∙◌, ap}
use Rattle.rational.specs.Rational.{inverse}
use Rattle.exact_lin.proofs.Edits.{IsErrOf-other}
use Rattle.lp_sparse.specs.SparseRows.{terms_of}
use Rattle.lp_sparse.proofs.SolvedTerms.{solved-from, solve-fails}
use Rattle.lp_sparse.proofs.solving.solve_row.Goals as goal

pub returns-in-Ok-clause-solved : goal.returns-in-Ok-clause-solved
returns-in-Ok-clause-solved g c = λ n h is. solved-from g.S.Scalar.limit n c.args.j (terms_of g.S.Scalar.value c.args.row.now) is h c.requires.pivot (g.S.Scalar.value c.neg.result) (g.S.Scalar.value c.recip-reciprocal.result)
    (c.recip-reciprocal.ensures ∙ ap inverse c.entry_in.ensures) c.neg.ensures _ c.in-Ok.ensures.terms c.in-Ok.ensures.defined

pub returns-in-Err-clause-wide : goal.returns-in-Err-clause-wide
returns-in-Err-clause-wide g c = λ w n h is. solve-fails g.S.Scalar.limit n c.args.j (terms_of g.S.Scalar.value c.args.row.now) is h c.requires.pivot (g.S.Scalar.value c.neg.result) (g.S.Scalar.value c.recip-reciprocal.result)
    (c.recip-reciprocal.ensures ∙ ap inverse c.entry_in.ensures) c.neg.ensures (c.in-Err.ensures.wide (IsErrOf-other _ _ w))
