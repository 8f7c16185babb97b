use Rattle.std.proofs.Common.{◌≡◌, ℕ, ◌+◌, ◌<◌, subst, sym, ap, ◌∙◌, length, set, arith}
use Rattle.std.proofs.lemmas.List.{get_or_default}
use Rattle.std.specs.Vec.{with_item}
use Rattle.lp_sparse.specs.declared.tableau.Tableau.{Tableau}
use Rattle.lp_sparse.specs.SparseRows.{terms_of, terms_of_rows}
use Rattle.lp_sparse.specs.SparseChanges.{AreWithin, Becomes, changes_of}
use Rattle.lp_sparse.specs.SparseTableaus.{width_of}
use Rattle.lp_sparse.proofs.Changes.{AreChanges-within}
use Rattle.lp_sparse.proofs.Pivoting.{made-fits, made-pivoted}
use Rattle.lp_sparse.proofs.RowReads.{length-terms_of_rows}
use Rattle.lp_sparse.proofs.pivot.make.Goals as goal

pub place_rows-requires-clause-changes : goal.place_rows-requires-clause-changes
place_rows-requires-clause-changes g c =
    let rows = terms_of_rows g.S.Scalar.value c.args.t.now.rows.items in
    subst (λ (n : ℕ). AreWithin n (changes_of g.S.Scalar.value c.args.reckoned.rows.items)) (let e : 0 + length rows ≡ length c.args.t.now.rows.items = omega (arith, length-terms_of_rows g.S.Scalar.value c.args.t.now.rows.items) in e)
    (AreChanges-within (Becomes g.S.Scalar.limit (width_of c.args.t.now) (terms_of g.S.Scalar.value c.args.solution.items) c.args.i c.args.j) 0 rows (changes_of g.S.Scalar.value c.args.reckoned.rows.items) c.requires.reckoned.rows)

pub returns-clause-rows : goal.returns-clause-rows
returns-clause-rows g c =
    let t = c.args.t.now in
    let short : c.args.i < length t.basic.items = omega (arith, c.requires.row, c.requires.rows.basic) in
    made-fits g.S.Scalar.value g.S.Scalar.limit t c.requires.rows c.args.i c.args.j (terms_of g.S.Scalar.value c.args.solution.items) c.requires.row c.requires.solved c.args.reckoned c.requires.reckoned _ c.place_rows.ensures.rows c.put_changed.ensures
    (ap (set t.basic.items c.args.i) (c.index.ensures ∙ get_or_default t.nonbasic.items c.args.j c.index.result.now 0 c.requires.column))
    (ap (set t.nonbasic.items c.args.j) (c.index-leaving.ensures ∙ get_or_default t.basic.items c.args.i c.index-leaving.result.now 0 short)) c.place_rows.ensures.marked

pub returns-clause-pivot : goal.returns-clause-pivot
returns-clause-pivot g c =
    let t = c.args.t.now in
    let short : c.args.i < length t.basic.items = omega (arith, c.requires.row, c.requires.rows.basic) in
    let u : Tableau g.row.S.Denot = record { basic = with_item t.basic c.args.i c.index.result.now; nonbasic = with_item t.nonbasic c.args.j c.index-leaving.result.now; rows = c.place_rows.new.rows; cost = c.put_changed.new.place; marks = c.place_rows.new.marks } in
    made-pivoted g.S.Scalar.value g.S.Scalar.limit t c.requires.rows c.args.i c.args.j (terms_of g.S.Scalar.value c.args.solution.items) c.requires.row c.requires.solved c.args.reckoned c.requires.reckoned u c.place_rows.ensures.rows c.put_changed.ensures
    (ap (set t.basic.items c.args.i) (c.index.ensures ∙ get_or_default t.nonbasic.items c.args.j c.index.result.now 0 c.requires.column))
    (ap (set t.nonbasic.items c.args.j) (c.index-leaving.ensures ∙ get_or_default t.basic.items c.args.i c.index-leaving.result.now 0 short))
