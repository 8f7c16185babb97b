use Rattle.std.proofs.Common.{arith}
use Rattle.cert_core.proofs.Columns.{next_column, unmet_column-first}
use Rattle.cert_core.proofs.check.check_each_column.Goals as goal

pub returns-in-Err : goal.returns-in-Err
returns-in-Err g c = unmet_column-first _ (g.P.Rows.program c.args.program.now) _ _ _ c.loop-number.number _ _ _ (omega arith) c.of.ensures c.loop-number.invariant (c.in-Err.ensures {u = tt})

pub loop-number-preserved : goal.loop-number-preserved
loop-number-preserved g c = next_column _ (g.P.Rows.program c.args.program.now) _ _ _ c.loop-number.number _ _ (omega arith) c.of.ensures c.loop-number.invariant (c.in-Ok.ensures {u = tt})
