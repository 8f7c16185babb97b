use Rattle.std.proofs.Common.{◌∙◌, ap}
use Rattle.std.specs.Prelude.{◌||◌}
use Rattle.task_types.specs.Clash.{disturbs, clash}
use Rattle.plan_validator.proofs.disturbing.clash.Goals as goal

pub returns : goal.returns
unfolding clash
returns c = c.either.ensures ∙ ap (λ b. b || c.disturbs-2.result) c.disturbs.ensures ∙ ap (λ b. disturbs c.args.parts.now c.args.other.now c.args.one.now || b) c.disturbs-2.ensures
