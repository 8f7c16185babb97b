use Rattle.std.proofs.Common.{sym, map, ap, ◌∙◌, length}
use Rattle.std.proofs.lemmas.List.{with_items_is}
use Rattle.lp_tableau.specs.RowLists.{shown_rows}
use Rattle.lp_tableau.proofs.RowLists.{row_in-read}
use Rattle.lp_tableau.proofs.Reckonings.{reckoned}
use Rattle.lp_tableau.proofs.pivot.reckon.Goals as goal

pub returns-in-Ok-clause-cases : goal.returns-in-Ok-clause-cases
returns-in-Ok-clause-cases g c = reckoned g.S.Scalar.value g.S.Scalar.limit c.args.t.now _ c.args.i c.args.j
    (map g.S.Scalar.value c.deref.result.now) (map g.S.Scalar.value c.deref-in-Ok.result.now) (map g.S.Scalar.value c.solve_row.new.out)
    (shown_rows g.S.Scalar.value c.reckon_others.new.spare) (map g.S.Scalar.value c.reckon_others.new.cost) c.reckon_others.result
    (row_in-read g.S.Scalar.value c.args.t.now.rows.items c.args.i c.index.result.now c.deref.result.now c.requires.row c.index.ensures c.deref.ensures.value)
    (ap (map g.S.Scalar.value) (c.deref-in-Ok.ensures.value ∙ with_items_is c.args.room.now.solution c.solve_row.new.out
    (c.in-Ok.ensures.length ∙ ap length c.deref.ensures.value ∙ ap (λ v. length v.items) c.index.ensures ∙ c.requires.even.rows c.args.i c.index.result.now c.requires.row ∙ sym c.requires.room.solution ∙ sym c.args.room.now.solution.ok.0)))
    c.in-Ok.ensures.cases
    (sym (ap (map g.S.Scalar.value) c.deref-in-Ok.ensures.value))
    (ap (shown_rows g.S.Scalar.value) (with_items_is c.args.room.now.rows c.reckon_others.new.spare (c.reckon_others.ensures.count ∙ ap length c.deref_mut-in-Ok.ensures.value ∙ sym c.args.room.now.rows.ok.0)))
    (ap (map g.S.Scalar.value) (with_items_is c.args.room.now.cost c.reckon_others.new.cost (c.reckon_others.ensures.cost ∙ ap length c.deref_mut-in-Ok-2.ensures.value ∙ sym c.args.room.now.cost.ok.0)))
    c.reckon_others.ensures.cases
