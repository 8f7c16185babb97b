use Rattle.std.proofs.Common.{List, ℕ, subst, sym, arith}
use Rattle.exact_lin.proofs.Edits.{IsErrOf-other}
use Rattle.lp_tableau.specs.Pivots.{CanReplace}
use Rattle.lp_sparse.specs.SparseRows.{filled, terms_of}
use Rattle.lp_sparse.specs.SparsePivots.{whole_of}
use Rattle.lp_sparse.specs.SparseTableaus.{width_of}
use Rattle.lp_sparse.proofs.RowReads.{cost-is}
use Rattle.lp_sparse.proofs.pivot.reckon_at.Goals as goal

pub returns-in-Err-replace-clause-wide : goal.returns-in-Err-replace-clause-wide
returns-in-Err-replace-clause-wide g c =
    let value = g.S.Scalar.value in
    let n = width_of c.args.t.now in
    λ w h. c.in-Err-replace.ensures.wide (IsErrOf-other _ _ w) n (omega (arith, c.requires.column)) (cost-is value g.S.Scalar.limit c.args.t.now c.requires.rows c.deref.result.now c.deref.ensures.value) c.requires.solution
    (subst (λ xs. CanReplace g.S.Scalar.limit (filled n (whole_of value c.args.j c.args.solution.now)) c.args.j (filled n (terms_of value xs))) (sym c.deref.ensures.value) h.cost)
