use Rattle.std.proofs.Common.{◌∙◌, arith}
use Rattle.lp_sparse.specs.SparseTableaus.{dictionary_of}
use Rattle.lp_sparse.proofs.RowReads.{rows-length}
use Rattle.lp_sparse.proofs.ResultSteps.{point-next, point-all}
use Rattle.lp_sparse.proofs.results.write_point.Goals as goal

pub loop-i-preserved : goal.loop-i-preserved
loop-i-preserved g c = point-next g.T.Scalar.value (dictionary_of g.S.Scalar.value c.args.t.now) c.requires.dictionary _ c.loop-i.i c.index.result.now _ c.loop-i.out c.put.new.out (omega (arith, rows-length g.S.Scalar.value c.args.t.now)) c.index.ensures (c.read_as.ensures ∙ c.constant.ensures) c.put.ensures.length c.put.ensures.value c.loop-i.invariant

pub returns : goal.returns
returns g c = point-all g.T.Scalar.value (dictionary_of g.S.Scalar.value c.args.t.now) c.requires.dictionary c.loop-i.out c.loop-i.i (omega (arith, rows-length g.S.Scalar.value c.args.t.now)) c.loop-i.invariant
