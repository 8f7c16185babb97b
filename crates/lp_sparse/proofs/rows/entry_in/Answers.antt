use Rattle.std.proofs.Common.{sym}
use Rattle.lp_sparse.specs.SparseRows.{terms_of}
use Rattle.lp_sparse.proofs.RowParts.{found-is}
use Rattle.lp_sparse.proofs.rows.entry_in.Goals as goal

pub returns-in-Some : goal.returns-in-Some
returns-in-Some g c = sym (found-is (terms_of g.S.Scalar.value c.args.row.now) (terms_of g.S.Scalar.value c.in-Some.found.front.now) c.args.column (g.S.Scalar.value c.in-Some.found.number) (terms_of g.S.Scalar.value c.in-Some.found.back.now) c.requires c.in-Some.ensures)
