use Rattle.std.proofs.Common.{◌∙◌, arith, subst, take, length}
use Rattle.std.proofs.lemmas.List.{take_all}
use Rattle.exact_lin.specs.Reckoning.{narrow_limit}
use Rattle.rational.specs.Rational.{ℚ}
use Rattle.lp_sparse.specs.SparseRows.{terms_of_rows}
use Rattle.lp_sparse.proofs.RowReads.{length-terms_of_rows}
use Rattle.lp_sparse.proofs.WiderParts.{widened_rows-next}
use Rattle.lp_sparse.proofs.NarrowParts.{found, missing, FirstRowsFit-next, FirstRowsFit-all, RowTermsFit-not}
use Rattle.lp_sparse.proofs.narrow.narrow_rows.Goals as goal

pub loop-row-preserved : goal.loop-row-preserved
loop-row-preserved c = (
  widened_rows-next c.args.rows.now c.loop-row.out.items c.push.new.self.items c.loop-row.row-index c.row-item.result c.in-Some.more c.loop-row-test.true c.row-item.is ((found _ _ _ _ c.in-Some.is c.in_ok-more.ensures).1 ∙ c.deref.ensures.value) c.in_ok-push-in-Some.ensures.items c.loop-row.invariant.0,
  FirstRowsFit-next narrow_limit c.args.rows.now c.loop-row.row-index c.row-item.result c.deref.result.now c.loop-row-test.true c.row-item.is c.deref.ensures.value (found _ _ _ _ c.in-Some.is c.in_ok-more.ensures).0 c.loop-row.invariant.1,
)

pub returns-in-None : goal.returns-in-None
returns-in-None c = RowTermsFit-not narrow_limit c.args.rows.now c.loop-row.row-index c.row-item.result c.deref.result.now c.loop-row-test.true c.row-item.is c.deref.ensures.value (missing _ _ _ c.in-None.is c.in_ok-more.ensures)

pub returns : goal.returns
returns c = (
  FirstRowsFit-all narrow_limit c.args.rows.now c.loop-row.row-index (omega arith) c.loop-row.invariant.1,
  c.loop-row.invariant.0 ∙ take_all c.loop-row.row-index (terms_of_rows (λ q. q) c.args.rows.now) (omega (arith, length-terms_of_rows (λ (q : ℚ). q) c.args.rows.now)),
)
