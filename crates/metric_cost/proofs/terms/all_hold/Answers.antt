use Rattle.std.proofs.Common.{List, [], subst, drop, arith}
use Rattle.std.proofs.lemmas.List.{drop_all}
use Rattle.exact_lin.specs.Forms.{LinearForm, values_of}
use Rattle.metric_cost.proofs.Holding.{HoldSoFar, hold-begin, hold-next, hold-stop, hold-end}
use Rattle.metric_cost.proofs.terms.all_hold.Goals as goal

pub loop-form-init : goal.loop-form-init
loop-form-init c = hold-begin (values_of c.args.fluents.now) c.args.forms.now

pub returns-in-Err : goal.returns-in-Err
returns-in-Err c = hold-stop (values_of c.args.fluents.now) c.args.forms.now c.loop-form.all c.loop-form.form-index c.form-item.result c.loop-form-test.true c.form-item.is c.loop-form.invariant c.in-Err.ensures

pub loop-form-preserved : goal.loop-form-preserved
loop-form-preserved c = rw c.both-all.ensures (hold-next (values_of c.args.fluents.now) c.args.forms.now c.loop-form.all c.loop-form.form-index c.form-item.result c.loop-form-test.true c.form-item.is c.loop-form.invariant c.in-Ok.holds c.in-Ok.ensures.0 c.in-Ok.ensures.1)

pub returns : goal.returns
returns c = hold-end (values_of c.args.fluents.now) c.args.forms.now c.loop-form.all
    (subst (λ (rest : List LinearForm). HoldSoFar (values_of c.args.fluents.now) c.args.forms.now c.loop-form.all rest) (drop_all c.loop-form.form-index c.args.forms.now c.loop-form-test.false) c.loop-form.invariant)
