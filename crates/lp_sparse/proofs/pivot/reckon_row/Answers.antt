use Rattle.std.proofs.Common.{List, subst, arith}
use Rattle.rational.specs.Rational.{ℚ}
use Rattle.exact_lin.proofs.Edits.{IsErrOf-other}
use Rattle.lp_tableau.specs.Pivots.{CanReplace}
use Rattle.lp_sparse.specs.SparseRows.{filled}
use Rattle.lp_sparse.specs.SparsePivots.{whole_of}
use Rattle.lp_sparse.specs.SparseTableaus.{width_of}
use Rattle.lp_sparse.proofs.RowReads.{terms_in-read, read-is, read-row, rows-length}
use Rattle.lp_sparse.proofs.pivot.reckon_row.Goals as goal

pub replace-requires-clause-row : goal.replace-requires-clause-row
replace-requires-clause-row g c = (read-is g.S.Scalar.value g.S.Scalar.limit c.args.t.now c.requires.rows c.args.k c.deref.result.now c.requires.row
    (terms_in-read g.S.Scalar.value c.args.t.now.rows.items c.args.k c.index.result.now c.deref.result.now c.requires.row c.index.ensures c.deref.ensures.value)).sparse.ascends

pub returns-in-Err-clause-wide : goal.returns-in-Err-clause-wide
returns-in-Err-clause-wide g c =
    let t = c.args.t.now in
    let n = width_of t in
    let read = terms_in-read g.S.Scalar.value t.rows.items c.args.k c.index.result.now c.deref.result.now c.requires.row c.index.ensures c.deref.ensures.value in
    λ w h. c.in-Err.ensures.wide (IsErrOf-other _ _ w) n (omega (arith, c.requires.column)) (read-is g.S.Scalar.value g.S.Scalar.limit t c.requires.rows c.args.k c.deref.result.now c.requires.row read) c.requires.solution
    (subst (λ (u : List ℚ). CanReplace g.S.Scalar.limit (filled n (whole_of g.S.Scalar.value c.args.j c.args.solution.now)) c.args.j u) (read-row g.S.Scalar.value g.S.Scalar.limit t c.requires.rows c.args.k c.deref.result.now c.requires.row read)
    (h c.args.k (omega (arith, c.requires.row, rows-length g.S.Scalar.value t)) c.if-k-i.false))
