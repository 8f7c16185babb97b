use Rattle.std.proofs.Common.{arith}
use Rattle.lp_tableau.proofs.ResultSteps.{point-next, point-all}
use Rattle.lp_tableau.proofs.results.write_point.Goals as goal

pub loop-i-preserved : goal.loop-i-preserved
loop-i-preserved g c = point-next g.S.Scalar.value c.args.t.now c.requires.dictionary _ c.loop-i.i c.index.result.now _ c.loop-i.out c.put.new.out (omega arith) c.index.ensures c.constant.ensures c.put.ensures.length c.put.ensures.value c.loop-i.invariant

pub returns : goal.returns
returns g c = point-all g.S.Scalar.value c.args.t.now c.requires.dictionary c.loop-i.out c.loop-i.i (omega arith) c.loop-i.invariant
