use Rattle.std.proofs.Common.{ℕ, ◌<◌, length, refl, subst, sym, arith}
use Rattle.lp_sparse.specs.SparseRows.{terms_of, terms_of_rows}
use Rattle.lp_sparse.specs.SparseChanges.{changes_of}
use Rattle.lp_sparse.specs.ColumnMarks.{marks_of, AreMarked, IsMarked}
use Rattle.lp_sparse.proofs.Changes.{change-within, change-made, row-placed}
use Rattle.lp_sparse.proofs.Marking.{AreMarked-put}
use Rattle.lp_sparse.proofs.RowReads.{length-terms_of_rows}
use Rattle.lp_sparse.proofs.pivot.write_rows.Goals as goal

pub index_mut-requires : goal.index_mut-requires
index_mut-requires g c = subst (λ (n : ℕ). c.in-Some.k < n) (sym c.loop-k.rows.ok.0) (change-within g.S.Scalar.value c.loop-k.left.items c.pop.new.self.items c.in-Some.k c.in-Some.row c.loop-k.rows.items c.in-Some.ensures.items c.loop-k.invariant.0)

pub loop-k-preserved : goal.loop-k-preserved
loop-k-preserved g c =
    let value = g.S.Scalar.value in
    let rows = c.loop-k.rows.items in
    let inside : c.in-Some.k < length rows = change-within value c.loop-k.left.items c.pop.new.self.items c.in-Some.k c.in-Some.row rows c.in-Some.ensures.items c.loop-k.invariant.0 in
    let made = change-made value c.loop-k.left.items c.pop.new.self.items c.in-Some.k c.in-Some.row rows c.in-Some.ensures.items c.loop-k.invariant.0 c.put.new.place _ c.put.ensures c.loop-k.invariant.1 in (
      made.0,
      made.1,
      subst (AreMarked (marks_of c.mark_row.new.marks.items)) (sym (row-placed value rows c.in-Some.k c.put.new.place c.in-Some.row (terms_of_rows value rows) c.put.ensures refl))
          (AreMarked-put (marks_of c.loop-k.marks.items) (marks_of c.mark_row.new.marks.items) (terms_of_rows value rows) c.in-Some.k (terms_of value c.in-Some.row.items) (omega (arith, inside, length-terms_of_rows value rows)) c.mark_row.ensures.kept
          (subst (λ xs. IsMarked (marks_of c.mark_row.new.marks.items) c.in-Some.k (terms_of value xs)) c.deref.ensures.value c.mark_row.ensures.here) c.loop-k.invariant.2),
    )
