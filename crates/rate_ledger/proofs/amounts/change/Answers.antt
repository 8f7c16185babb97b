use Rattle.rate_ledger.specs.Reckoned.{AreDefined, change_made, rate_made}
use Rattle.rate_ledger.specs.Picking.{CanAddPicked, last_picked}
use Rattle.rate_ledger.proofs.Failing.{hands_on}
use Rattle.rate_ledger.proofs.Changed.{after_made, after_unmade, change_is}
use Rattle.rate_ledger.proofs.amounts.change.Goals as goal

pub returns-in_err-form : goal.returns-in_err-form
returns-in_err-form c =
    let l = c.args.ledger.now in
    let n = c.args.next.now in
    let v = c.in_ok-value.ensures in
    hands_on (CanAddPicked c.args.fluent (last_picked c.args.fluent c.in_ok-value.value n.assigns) n.increases) (AreDefined (change_made c.args.task.now.parts l.steps n.step c.args.fluent)) _ c.from_residual-in_err-form.result _ c.from_residual-in_err-form.ensures
    (λ d. after_unmade c.args.task.now.parts l n c.requires.next c.args.fluent c.requires.changed c.in_ok-value.value v.0 v.1 d.1.0) c.in_err-form.ensures

pub returns-in_err-rate : goal.returns-in_err-rate
returns-in_err-rate c =
    let l = c.args.ledger.now in
    let n = c.args.next.now in
    hands_on (AreDefined (rate_made c.args.task.now.parts l.steps n.step c.args.fluent)) (AreDefined (change_made c.args.task.now.parts l.steps n.step c.args.fluent)) _ c.from_residual-in_err-rate.result _ c.from_residual-in_err-rate.ensures
    (λ d. d.1.1) c.in_err-rate.ensures

pub returns : goal.returns
returns c =
    let l = c.args.ledger.now in
    let n = c.args.next.now in
    let v = c.in_ok-value.ensures in (
      (
        v.0,
        (
          after_made c.args.task.now.parts l n c.requires.next c.args.fluent c.requires.changed c.in_ok-value.value v.0 v.1 c.in_ok-form.ensures.0,
          c.in_ok-rate.ensures.0,
        ),
      ),
      change_is c.args.task.now.parts l n c.requires.next c.args.fluent c.requires.changed c.in_ok-value.value v.0 v.1 c.in_ok-form.form c.in_ok-rate.rate c.in_ok-form.ensures.1 c.in_ok-rate.ensures.1,
    )
