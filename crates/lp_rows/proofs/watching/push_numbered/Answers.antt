use Rattle.std.proofs.Common.{sym, subst, ℕ, ◌+◌, List, take}
use Rattle.exact_lin.specs.Forms.{LinearForm}
use Rattle.rate_ledger.proofs.Failing.{hands_on}
use Rattle.lp_rows.specs.StepRows.{Compared}
use Rattle.lp_rows.specs.Comparing.{CanCompare, watch_of}
use Rattle.lp_rows.proofs.Pushing.{ArePushed, ArePushed-more, numbered, numbered-more, number_needed}
use Rattle.lp_rows.proofs.watching.push_numbered.Goals as goal

pub returns-in_err-push_watch : goal.returns-in_err-push_watch
returns-in_err-push_watch c =
    let watch : ℕ × LinearForm → List Compared = watch_of c.args.task.now.parts c.args.ledger.now.steps c.args.step c.args.start c.args.own in
    hands_on (CanCompare (watch (c.args.first + c.loop-place.place, c.index-forms-place.result))) (CanCompare (numbered watch c.args.first c.args.forms.now)) _ c.from_residual.result _ c.from_residual.ensures
    (number_needed watch c.args.first c.args.forms.now c.loop-place.place c.index-forms-place.result c.loop-place-test.true c.index-forms-place.is)
    c.in_err-push_watch.ensures

pub loop-place-preserved : goal.loop-place-preserved
loop-place-preserved c =
    let watch : ℕ × LinearForm → List Compared = watch_of c.args.task.now.parts c.args.ledger.now.steps c.args.step c.args.start c.args.own in
    let forms = c.args.forms.now in
    let i = c.loop-place.place in
    let x = c.index-forms-place.result in
    subst (λ cs. ArePushed c.args.out.now cs c.push_watch.new.out) (sym (numbered-more watch c.args.first forms i x c.loop-place-test.true c.index-forms-place.is))
    (ArePushed-more c.args.out.now (numbered watch c.args.first (take i forms)) (watch (c.args.first + i, x)) c.loop-place.out c.push_watch.new.out c.loop-place.invariant c.in_ok-push_watch.ensures)
