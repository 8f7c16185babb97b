use Rattle.std.proofs.Common.{ap, ap₂, ◌∙◌}
use Rattle.rational.proofs.Field.{zero_add}
use Rattle.exact_lin.specs.Forms.{constant_form, plus_constant}
use Rattle.ground_world.specs.Expressions.{minus_one}
use Rattle.grounder.proofs.goal_conditions.failing.Goals as goal

pub returns-in-Ok : goal.returns-in-Ok
returns-in-Ok c = c.in-Ok.ensures.form ∙ ap₂ plus_constant c.zero-form.ensures c.of_int.ensures ∙ ap constant_form (zero_add minus_one)
