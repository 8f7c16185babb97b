use Rattle.std.proofs.Common.{◌<◌, ◌≤◌, ◌+◌, length, take, subst, sym, ap, ◌∙◌, arith}
use Rattle.std.proofs.lemmas.List.{take_all}
use Rattle.lp_sparse.specs.SparseRows.{terms_of_rows}
use Rattle.lp_sparse.specs.SparseChanges.{AreChanges, Becomes, changes_of}
use Rattle.lp_sparse.specs.SparsePivots.{whole_of}
use Rattle.lp_sparse.specs.SparseTableaus.{width_of}
use Rattle.lp_sparse.specs.ColumnMarks.{marks_of, may_hold}
use Rattle.lp_sparse.proofs.Changes.{noted-next}
use Rattle.lp_sparse.proofs.Passing.{rows-passed}
use Rattle.lp_sparse.proofs.RowReads.{length-terms_of_rows}
use Rattle.lp_sparse.proofs.pivot.reckon_rows.Goals as goal

pub loop-k-init : goal.loop-k-init
loop-k-init g c =
    let value = g.S.Scalar.value in
    let t = c.args.t.now in
    let end : c.next_holding-k.result ≤ length t.rows.items = omega (arith, c.next_holding-k.ensures.within, c.len-count.ensures, t.rows.ok.0) in (
      end,
      rows-passed value g.S.Scalar.limit t c.requires.rows (whole_of value c.args.j c.args.solution.now) c.args.i c.args.j c.requires.column 0 c.next_holding-k.result (changes_of value c.new-changes.result.items) (omega arith) end
          (λ e f b. ap (λ marks. may_hold (marks_of marks) c.args.j e) (sym c.deref.ensures.value) ∙ c.next_holding-k.ensures.passed e f b)
          (ap (changes_of value) c.new-changes.ensures.items),
    )

pub loop-k-preserved : goal.loop-k-preserved
loop-k-preserved g c =
    let value = g.S.Scalar.value in
    let t = c.args.t.now in
    let Changes = Becomes g.S.Scalar.limit (width_of t) (whole_of value c.args.j c.args.solution.now) c.args.i c.args.j in
    let here : c.loop-k.k < length t.rows.items = omega (arith, c.loop-k-test.true, c.len-count.ensures, t.rows.ok.0) in
    let next = c.next_holding-k-in-loop-k in
    let end : next.result ≤ length t.rows.items = omega (arith, next.ensures.within, c.len-count.ensures, t.rows.ok.0) in (
      end,
      rows-passed value g.S.Scalar.limit t c.requires.rows (whole_of value c.args.j c.args.solution.now) c.args.i c.args.j c.requires.column (c.loop-k.k + 1) next.result (changes_of value c.note.new.changes.items) next.ensures.from end
          (λ e f b. ap (λ marks. may_hold (marks_of marks) c.args.j e) (sym c.deref-in-loop-k.ensures.value) ∙ next.ensures.passed e f b)
          (subst (λ cs. AreChanges Changes 0 (take (c.loop-k.k + 1) (terms_of_rows value t.rows.items)) cs) (sym c.in-Ok-note.ensures.changes)
          (noted-next value Changes (terms_of_rows value t.rows.items) (changes_of value c.loop-k.changes.items) c.loop-k.k c.in-Ok.row (omega (arith, here, length-terms_of_rows value t.rows.items)) c.in-Ok.ensures.becomes c.loop-k.invariant.1)),
    )

pub returns-clause-changes : goal.returns-clause-changes
returns-clause-changes g c =
    let value = g.S.Scalar.value in
    let t = c.args.t.now in
    let Changes = Becomes g.S.Scalar.limit (width_of t) (whole_of value c.args.j c.args.solution.now) c.args.i c.args.j in
    subst (λ rows. AreChanges Changes 0 rows (changes_of value c.loop-k.changes.items))
    (take_all c.loop-k.k (terms_of_rows value t.rows.items) (omega (arith, c.loop-k-test.false, c.len-count.ensures, t.rows.ok.0, length-terms_of_rows value t.rows.items))) c.loop-k.invariant.1
