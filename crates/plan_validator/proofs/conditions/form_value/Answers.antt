use Rattle.std.proofs.Common.{◌≡◌, subst}
use Rattle.std.proofs.lemmas.List.{map-id}
use Rattle.exact_lin.specs.Reckoning.{wide_limit}
use Rattle.exact_lin.specs.Forms.{CanEvaluate, form_at, values_of}
use Rattle.task_types.specs.State.{value}
use Rattle.plan_validator.proofs.conditions.form_value.Goals as goal

pub returns-in-Ok : goal.returns-in-Ok
unfolding value
returns-in-Ok c = subst (λ xs. (CanEvaluate wide_limit c.args.form.now (values_of xs) × Unit {0}) × (c.in-Ok.value ≡ form_at c.args.form.now (values_of xs))) (map-id c.args.fluents.now) ((c.in-Ok.ensures.0, tt), c.in-Ok.ensures.1)
