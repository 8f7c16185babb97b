use Rattle.lp_tableau.proofs.RowPlaces.{solved-from}
use Rattle.lp_tableau.proofs.rows.solve_row.Goals as goal

pub returns-in-Ok-clause-cases : goal.returns-in-Ok-clause-cases
returns-in-Ok-clause-cases g c = solved-from g.S.Scalar.value g.S.Scalar.limit _ c.scale_row.new.out c.args.j c.index-row-j.result c.recip-reciprocal.result c.neg.result c.requires.column c.index-row-j.is c.recip-reciprocal.ensures c.neg.ensures c.in-Ok.ensures.cases
