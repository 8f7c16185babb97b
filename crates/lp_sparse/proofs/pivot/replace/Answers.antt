use Rattle.std.proofs.Common.{subst}
use Rattle.exact_lin.specs.Forms.{AscendFrom}
use Rattle.exact_lin.proofs.Edits.{IsErrOf-other}
use Rattle.lp_sparse.specs.SparseRows.{terms_of}
use Rattle.lp_sparse.specs.SparsePivots.{whole_of}
use Rattle.lp_sparse.proofs.Replacing.{split-front, split-back, joined-replaced, join-fails, without-replaces}
use Rattle.lp_sparse.proofs.pivot.replace.Goals as goal

pub join-requires-clause-row_front : goal.join-requires-clause-row_front
join-requires-clause-row_front g c = split-front _ _ _ (subst (AscendFrom 0) c.in-Some.ensures c.requires.row)

pub join-requires-clause-row_back : goal.join-requires-clause-row_back
join-requires-clause-row_back g c = split-back _ _ _ (subst (AscendFrom 0) c.in-Some.ensures c.requires.row)

pub join-requires-clause-front : goal.join-requires-clause-front
join-requires-clause-front g c = split-front _ _ _ c.requires.solution

pub join-requires-clause-back : goal.join-requires-clause-back
join-requires-clause-back g c = split-back _ _ _ c.requires.solution

pub returns-in-Ok-clause-replaced : goal.returns-in-Ok-clause-replaced
returns-in-Ok-clause-replaced g c = λ n h is sparse. joined-replaced g.S.Scalar.limit n c.args.j (terms_of g.S.Scalar.value c.args.row.now) _ _ _ _ _ _ c.in-Some.ensures is sparse _ c.in-Ok.ensures.defined c.in-Ok.ensures.terms

pub returns-in-Err-clause-wide : goal.returns-in-Err-clause-wide
returns-in-Err-clause-wide g c = λ w n h is sparse. join-fails g.S.Scalar.limit n c.args.j (terms_of g.S.Scalar.value c.args.row.now) _ _ _ _ _ _ c.in-Some.ensures is sparse (c.in-Err.ensures.wide (IsErrOf-other _ _ w))

pub returns-in-None-clause-replaced : goal.returns-in-None-clause-replaced
returns-in-None-clause-replaced g c = λ n h is sparse. without-replaces g.S.Scalar.limit n c.args.j (whole_of g.S.Scalar.value c.args.j c.args.solution.now) (terms_of g.S.Scalar.value c.args.row.now) h is c.in-None.ensures
