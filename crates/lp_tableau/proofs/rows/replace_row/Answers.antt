use Rattle.std.proofs.Common.{arith}
use Rattle.lp_tableau.proofs.RowPlaces.{Replaced-next, Replaced-all}
use Rattle.lp_tableau.proofs.rows.replace_row.Goals as goal

pub loop-k-preserved : goal.loop-k-preserved
loop-k-preserved g c = Replaced-next g.S.Scalar.value g.S.Scalar.limit _ _ c.loop-k.out _ c.loop-k.k c.cleared_at.result c.index-row-j.result c.index-solution-k.result c.in-Ok.total c.requires.column (omega arith) c.requires.solution c.cleared_at.ensures c.index-row-j.is c.index-solution-k.is (c.in-Ok.ensures {u = tt}) c.loop-k.invariant

pub returns-clause-cases : goal.returns-clause-cases
returns-clause-cases g c = Replaced-all g.S.Scalar.value g.S.Scalar.limit _ _ c.loop-k.out _ c.loop-k.k c.requires.solution (omega arith) c.loop-k.invariant
