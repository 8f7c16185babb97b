use Rattle.std.proofs.Common.{◌≡◌, List, subst}
use Rattle.std.proofs.lemmas.List.{map-id}
use Rattle.rational.specs.Rational.{ℚ}
use Rattle.exact_lin.specs.Reckoning.{wide_limit}
use Rattle.exact_lin.specs.Forms.{CanEvaluate, form_at, values_of}
use Rattle.metric_cost.proofs.Adding.{base-told}
use Rattle.metric_cost.proofs.watchers.base_cost.Goals as goal

pub returns : goal.returns
returns c =
    let form = subst (λ (xs : List ℚ). CanEvaluate wide_limit c.args.metric.now.fluents (values_of xs) × (c.in_ok-form.form ≡ form_at c.args.metric.now.fluents (values_of xs))) (map-id c.args.fluents.now) c.in_ok-form.ensures in
    base-told c.args.metric.now c.args.total_time c.in_ok-timed.timed c.in_ok-sum.sum c.in_ok-form.form (values_of c.args.fluents.now) c.add-2.result
    c.in_ok-timed.ensures.0 c.in_ok-timed.ensures.1 c.in_ok-sum.ensures.0 c.in_ok-sum.ensures.1 form.0 form.1 c.add-2.ensures
