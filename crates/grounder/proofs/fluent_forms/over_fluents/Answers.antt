use Rattle.std.proofs.Common.{ap, ◌∙◌, nat_lt}
use Rattle.std.specs.List.{filter}
use Rattle.rational.specs.Rational.{ℚ}
use Rattle.exact_lin.specs.Forms.{LinearForm, plus_constant}
use Rattle.ground_world.specs.Expressions.{own_unknown}
use Rattle.grounder.specs.ShownGrounding.{ground_of}
use Rattle.rational.proofs.Field.{zero_add}
use Rattle.grounder.proofs.fluent_forms.over_fluents.Goals as goal

pub returns-in-Ok : goal.returns-in-Ok
returns-in-Ok c =
    let form : ℚ → LinearForm = λ q. record { constant = q; terms = filter (λ t. nat_lt t.0 (own_unknown (ground_of c.args.grounding.now).world)) c.args.form.now.terms } in
    c.in-Ok.ensures.form ∙ ap (λ (f : LinearForm). plus_constant f c.constant.result) c.in_ok-kept.ensures
    ∙ ap form (zero_add c.constant.result ∙ c.constant.ensures)
