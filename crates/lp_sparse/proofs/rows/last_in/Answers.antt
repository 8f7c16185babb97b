use Rattle.std.proofs.Common.{◌∙◌}
use Rattle.lp_sparse.proofs.RowParts.{last-is, last-other}
use Rattle.lp_sparse.proofs.rows.last_in.Goals as goal

pub returns-then-term-column : goal.returns-then-term-column
returns-then-term-column g c = last-is g.S.Scalar.value c.args.row.now c.requires.ascends c.in-Some._front.now c.in-Some.term.now c.args.column c.in-Some.ensures.cases.0 c.if-term-column.true

pub returns-else-term-column : goal.returns-else-term-column
returns-else-term-column g c = c.of_int.ensures ∙ last-other g.S.Scalar.value c.args.row.now c.requires.ascends c.in-Some._front.now c.in-Some.term.now c.args.column c.in-Some.ensures.cases.0 c.requires.covered c.if-term-column.false
