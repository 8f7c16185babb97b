use Rattle.std.proofs.Common.{sym, ap, subst, ◌∙◌, ℕ, List, take}
use Rattle.std.specs.List.{flat_map}
use Rattle.std.proofs.lemmas.List.{take_all}
use Rattle.task_types.proofs.Places.{flat_map-take-more}
use Rattle.rate_ledger.proofs.Failing.{hands_on}
use Rattle.lp_rows.specs.StepRows.{Compared, watch_compared}
use Rattle.lp_rows.specs.Comparing.{CanCompare, running_watch}
use Rattle.lp_rows.proofs.Pushing.{ArePushed, ArePushed-more, part_needed}
use Rattle.lp_rows.proofs.watching.push_watch_rows.Goals as goal

pub returns-in_err-push_running : goal.returns-in_err-push_running
returns-in_err-push_running c =
    let watch : ℕ → List Compared = running_watch c.args.task.now.parts c.args.ledger.now.steps c.args.step in
    hands_on (CanCompare (watch c.action-item.result)) (CanCompare (watch_compared c.args.task.now.parts c.args.ledger.now.steps c.args.step)) _ c.from_residual.result _ c.from_residual.ensures
    (λ m. part_needed watch c.args.runs.now c.loop-action.action-index c.action-item.result c.loop-action-test.true c.action-item.is (subst (λ runs. CanCompare (flat_map watch runs)) (sym c.requires.runs) m))
    c.in_err-push_running.ensures

pub loop-action-preserved : goal.loop-action-preserved
loop-action-preserved c =
    let watch : ℕ → List Compared = running_watch c.args.task.now.parts c.args.ledger.now.steps c.args.step in
    let runs = c.args.runs.now in
    let i = c.loop-action.action-index in
    subst (λ cs. ArePushed c.args.out.now cs c.push_running.new.out) (sym (flat_map-take-more watch runs i c.action-item.result c.loop-action-test.true c.action-item.is))
    (ArePushed-more c.args.out.now (flat_map watch (take i runs)) (watch c.action-item.result) c.loop-action.out c.push_running.new.out c.loop-action.invariant c.in_ok-push_running.ensures)

pub returns : goal.returns
returns c =
    let watch : ℕ → List Compared = running_watch c.args.task.now.parts c.args.ledger.now.steps c.args.step in
    let whole = subst (λ cs. ArePushed c.args.out.now cs c.loop-action.out) (ap (flat_map watch) (take_all c.loop-action.action-index c.args.runs.now c.loop-action-test.false ∙ c.requires.runs)) c.loop-action.invariant in
    (whole.can, whole.are)
