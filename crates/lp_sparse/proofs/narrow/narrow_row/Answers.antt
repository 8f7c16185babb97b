use Rattle.std.proofs.Common.{◌∙◌, arith}
use Rattle.std.proofs.lemmas.List.{take_all}
use Rattle.exact_lin.specs.Reckoning.{narrow_limit}
use Rattle.lp_sparse.proofs.WiderParts.{widened-next}
use Rattle.lp_sparse.proofs.NarrowParts.{FirstFit-next, FirstFit-all, TermsFit-not}
use Rattle.lp_sparse.proofs.narrow.narrow_row.Goals as goal

pub loop-term-preserved : goal.loop-term-preserved
loop-term-preserved c = (
  widened-next c.args.row.now c.loop-term.out.items _ c.loop-term.term-index c.term-item.result c.in-Some.number c.loop-term-test.true c.term-item.is c.in-Some.ensures.1 c.in_ok-push-in-Some.ensures.items c.loop-term.invariant.0,
  FirstFit-next narrow_limit c.args.row.now c.loop-term.term-index c.term-item.result c.loop-term-test.true c.term-item.is c.in-Some.ensures.0 c.loop-term.invariant.1,
)

pub returns-in-None : goal.returns-in-None
returns-in-None c = TermsFit-not narrow_limit c.args.row.now c.loop-term.term-index c.term-item.result c.loop-term-test.true c.term-item.is c.in-None.ensures

pub returns : goal.returns
returns c = (
  FirstFit-all narrow_limit c.args.row.now c.loop-term.term-index (omega arith) c.loop-term.invariant.1,
  c.loop-term.invariant.0 ∙ take_all c.loop-term.term-index c.args.row.now (omega arith),
)
