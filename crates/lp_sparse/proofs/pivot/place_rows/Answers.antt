use Rattle.std.proofs.Common.{◌≡◌, ℕ, ◌<◌, subst, sym, ◌∙◌, length, refl, arith}
use Rattle.lp_sparse.specs.SparseRows.{terms_of, terms_of_rows}
use Rattle.lp_sparse.specs.SparseChanges.{changes_of}
use Rattle.lp_sparse.specs.ColumnMarks.{marks_of, AreMarked, IsMarked}
use Rattle.lp_sparse.proofs.Changes.{length-placed, row-placed}
use Rattle.lp_sparse.proofs.Marking.{AreMarked-put}
use Rattle.lp_sparse.proofs.RowReads.{length-terms_of_rows}
use Rattle.lp_sparse.proofs.pivot.place_rows.Goals as goal

pub index_mut-requires : goal.index_mut-requires
index_mut-requires g c = subst (λ (n : ℕ). c.args.i < n) (sym (c.write_rows.new.rows.ok.0 ∙ length-placed g.S.Scalar.value (changes_of g.S.Scalar.value c.args.changes.items) c.args.rows.now.items c.write_rows.new.rows.items c.write_rows.ensures.rows)) c.requires.row

pub returns-clause-rows : goal.returns-clause-rows
returns-clause-rows g c = row-placed g.S.Scalar.value c.write_rows.new.rows.items c.args.i c.put.new.place c.args.solution _ c.put.ensures c.write_rows.ensures.rows

pub returns-clause-marked : goal.returns-clause-marked
returns-clause-marked g c =
    let value = g.S.Scalar.value in
    let rows = c.write_rows.new.rows.items in
    let inside : c.args.i < length rows = subst (λ (n : ℕ). c.args.i < n) (sym (length-placed value (changes_of value c.args.changes.items) c.args.rows.now.items rows c.write_rows.ensures.rows)) c.requires.row in
    subst (AreMarked (marks_of c.mark_row.new.marks.items)) (sym (row-placed value rows c.args.i c.put.new.place c.args.solution (terms_of_rows value rows) c.put.ensures refl))
    (AreMarked-put (marks_of c.write_rows.new.marks.items) (marks_of c.mark_row.new.marks.items) (terms_of_rows value rows) c.args.i (terms_of value c.args.solution.items) (omega (arith, inside, length-terms_of_rows value rows)) c.mark_row.ensures.kept
    (subst (λ xs. IsMarked (marks_of c.mark_row.new.marks.items) c.args.i (terms_of value xs)) c.deref.ensures.value c.mark_row.ensures.here) c.write_rows.ensures.marked)
