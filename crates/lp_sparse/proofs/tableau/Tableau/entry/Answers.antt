use Rattle.std.proofs.Common.{◌∙◌, sym, ap, arith}
use Rattle.lp_sparse.specs.ColumnMarks.{marks_of, may_hold}
use Rattle.lp_sparse.proofs.RowReads.{terms_in-read, read-is, read-at, unheld-at}
use Rattle.lp_sparse.proofs.tableau.Tableau.entry.Goals as goal

pub entry_in-requires : goal.entry_in-requires
entry_in-requires g c = (read-is g.S.Scalar.value g.S.Scalar.limit c.args.self.now c.requires.rows c.args.i c.deref-2.result.now c.requires.row
    (terms_in-read g.S.Scalar.value c.args.self.now.rows.items c.args.i c.index.result.now c.deref-2.result.now c.requires.row c.index.ensures c.deref-2.ensures.value)).sparse.ascends

pub returns : goal.returns
returns g c = c.entry_in.ensures ∙ read-at g.S.Scalar.value g.S.Scalar.limit c.args.self.now c.requires.rows c.args.i c.deref-2.result.now c.requires.row
    (terms_in-read g.S.Scalar.value c.args.self.now.rows.items c.args.i c.index.result.now c.deref-2.result.now c.requires.row c.index.ensures c.deref-2.ensures.value) c.args.j (omega (arith, c.requires.column))

pub returns-then-not-may_hold : goal.returns-then-not-may_hold
returns-then-not-may_hold g c =
    let t = c.args.self.now in
    c.of_int.ensures ∙ sym (unheld-at g.S.Scalar.value g.S.Scalar.limit t c.requires.rows c.args.i c.args.j c.requires.row (omega (arith, c.requires.column))
    (ap (λ marks. may_hold (marks_of marks) c.args.j c.args.i) (sym c.deref.ensures.value) ∙ sym c.may_hold.ensures ∙ c.if-not-may_hold.true))
