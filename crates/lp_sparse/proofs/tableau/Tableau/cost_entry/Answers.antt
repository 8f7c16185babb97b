use Rattle.std.proofs.Common.{◌∙◌, arith}
use Rattle.lp_sparse.proofs.RowReads.{cost-at}
use Rattle.lp_sparse.proofs.tableau.Tableau.cost_entry.Goals as goal

pub returns : goal.returns
returns g c = c.entry_in.ensures ∙ cost-at g.S.Scalar.value g.S.Scalar.limit c.args.self.now c.requires.rows c.args.j c.deref.result.now (omega (arith, c.requires.column)) c.deref.ensures.value
