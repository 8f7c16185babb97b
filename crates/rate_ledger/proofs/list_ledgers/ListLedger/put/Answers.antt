use Rattle.std.proofs.Common.{◌≡◌, sym, subst, ◌∙◌}
use Rattle.std.proofs.lemmas.List.{map-id}
use Rattle.rate_ledger.specs.Sums.{Number, form_of, CanMake, put}
use Rattle.rate_ledger.specs.Values.{value_sum}
use Rattle.rate_ledger.proofs.Failing.{hands_on}
use Rattle.rate_ledger.proofs.Putting.{put_on, ArePut-next, ArePut-end, value_needed, sum_needed}
use Rattle.rate_ledger.proofs.list_ledgers.ListLedger.put.Goals as goal
use Rattle.exact_lin.specs.Reckoning.{wide_limit}
use Rattle.exact_lin.specs.Forms.{CanAddScaled}

pub returns-in_err-value : goal.returns-in_err-value
returns-in_err-value c =
    let values = value_sum c.args.task.now.parts c.args.self.now.steps c.args.when.now in
    let ts = c.terms-term-items.result.now in
    let same : ts ≡ c.args.form.now.terms = sym (map-id ts) ∙ c.terms-term-items.ensures.value in
    hands_on (CanMake (values c.term-item.result.0)) (CanMake (put values c.args.form.now)) _ c.from_residual.result _ c.from_residual.ensures
    (λ m. value_needed values c.args.form.now.constant ts c.loop-term.term-index c.term-item.result c.loop-term-test.true c.term-item.is (subst (λ us. CanMake (put_on values (Number c.args.form.now.constant) us)) (sym same) m))
    c.in_err-value.ensures

pub returns-in_err-sum : goal.returns-in_err-sum
returns-in_err-sum c =
    let values = value_sum c.args.task.now.parts c.args.self.now.steps c.args.when.now in
    let ts = c.terms-term-items.result.now in
    let same : ts ≡ c.args.form.now.terms = sym (map-id ts) ∙ c.terms-term-items.ensures.value in
    hands_on (CanAddScaled wide_limit c.loop-term.sum c.term-item.result.1 c.in_ok-value.value) (CanMake (put values c.args.form.now)) _ c.from_residual-in_err-sum.result _ c.from_residual-in_err-sum.ensures
    (λ m. sum_needed values c.args.form.now.constant ts c.loop-term.term-index c.term-item.result c.loop-term-test.true c.term-item.is c.loop-term.sum c.in_ok-value.value c.loop-term.invariant c.in_ok-value.ensures.1 (subst (λ us. CanMake (put_on values (Number c.args.form.now.constant) us)) (sym same) m))
    c.in_err-sum.ensures

pub loop-term-preserved : goal.loop-term-preserved
loop-term-preserved c =
    ArePut-next (value_sum c.args.task.now.parts c.args.self.now.steps c.args.when.now) c.args.form.now.constant c.terms-term-items.result.now c.loop-term.term-index c.term-item.result c.loop-term-test.true c.term-item.is
    c.loop-term.sum c.in_ok-value.value c.in_ok-sum.sum c.loop-term.invariant c.in_ok-value.ensures c.in_ok-sum.ensures

pub returns : goal.returns
returns c =
    let values = value_sum c.args.task.now.parts c.args.self.now.steps c.args.when.now in
    let ts = c.terms-term-items.result.now in
    let same : ts ≡ c.args.form.now.terms = sym (map-id ts) ∙ c.terms-term-items.ensures.value in
    let all = ArePut-end values c.args.form.now.constant ts c.loop-term.term-index c.loop-term.sum c.loop-term-test.false c.loop-term.invariant in
    subst (λ us. CanMake (put_on values (Number c.args.form.now.constant) us) × (c.loop-term.sum ≡ form_of (put_on values (Number c.args.form.now.constant) us))) same all
