use Rattle.std.proofs.Common.{◌≡◌, List, subst, ◌∙◌, ap}
use Rattle.std.proofs.lemmas.List.{map-id}
use Rattle.rational.specs.Rational.{ℚ, zeroℚ}
use Rattle.exact_lin.specs.Reckoning.{wide_limit}
use Rattle.exact_lin.specs.Forms.{CanEvaluate, form_at, values_of}
use Rattle.task_types.specs.Tests.{◌≤?◌}
use Rattle.task_types.specs.State.{value}
use Rattle.metric_cost.proofs.terms.holds_at.Goals as goal

pub returns-in-Ok : goal.returns-in-Ok
unfolding value
returns-in-Ok c = subst (λ (xs : List ℚ). (CanEvaluate wide_limit c.args.form.now (values_of xs) × Unit {0}) × (c.is_at_most.result ≡ (zeroℚ ≤? form_at c.args.form.now (values_of xs)))) (map-id c.args.fluents.now)
    ((c.in-Ok.ensures.0, tt), c.is_at_most.ensures ∙ ap (λ q. q ≤? c.in-Ok.value) c.of_int.ensures ∙ ap (λ v. zeroℚ ≤? v) c.in-Ok.ensures.1)
