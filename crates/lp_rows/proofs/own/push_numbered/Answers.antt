use Rattle.std.proofs.Common.{sym, subst, ℕ, ◌+◌, ◌∷◌, [], map, take}
use Rattle.std.specs.List.{enumerate_from}
use Rattle.exact_lin.specs.Forms.{LinearForm}
use Rattle.rate_ledger.proofs.Failing.{hands_on}
use Rattle.lp_rows.specs.StepRows.{Compared}
use Rattle.lp_rows.specs.Comparing.{CanCompare, own_of}
use Rattle.lp_rows.proofs.Pushing.{ArePushed, ArePushed-more, numbered, numbered-more, number_needed, one_each}
use Rattle.lp_rows.proofs.own.push_numbered.Goals as goal

pub returns-in_err-push_own : goal.returns-in_err-push_own
returns-in_err-push_own c =
    let own : ℕ × LinearForm → Compared = own_of c.args.task.now.parts c.args.ledger.now.steps c.args.step in
    let forms = c.args.forms.now in
    hands_on (CanCompare (own (c.args.first + c.loop-place.place, c.index-forms-place.result) ∷ [])) (CanCompare (map own (enumerate_from c.args.first forms))) _ c.from_residual.result _ c.from_residual.ensures
    (λ m. number_needed (λ e. own e ∷ []) c.args.first forms c.loop-place.place c.index-forms-place.result c.loop-place-test.true c.index-forms-place.is (subst CanCompare (sym (one_each own (enumerate_from c.args.first forms))) m))
    c.in_err-push_own.ensures

pub loop-place-preserved : goal.loop-place-preserved
loop-place-preserved c =
    let own : ℕ × LinearForm → Compared = own_of c.args.task.now.parts c.args.ledger.now.steps c.args.step in
    let forms = c.args.forms.now in
    let i = c.loop-place.place in
    let x = c.index-forms-place.result in
    subst (λ cs. ArePushed c.args.out.now cs c.push_own.new.out) (sym (numbered-more (λ e. own e ∷ []) c.args.first forms i x c.loop-place-test.true c.index-forms-place.is))
    (ArePushed-more c.args.out.now (numbered (λ e. own e ∷ []) c.args.first (take i forms)) (own (c.args.first + i, x) ∷ []) c.loop-place.out c.push_own.new.out c.loop-place.invariant c.in_ok-push_own.ensures)
