use Rattle.std.proofs.Common.{rules, ◌≡◌, ap, ◌∙◌, [], ◌∷◌, refl}
use Rattle.rational.specs.Rational.{zeroℚ, whole}
use Rattle.rational.proofs.Ring.{law, ◌⊕◌, num, ◌≐◌}
use Rattle.rational.proofs.Field.{ℚ_ring}
use Rattle.exact_lin.specs.Forms.{constant_form, plus_constant}
use Rattle.task_types.proofs.tests.constant.Goals as goal

pub returns : goal.returns
returns c =
    let same : c.of_int.result ≡ whole c.args.number = search rules in
    (c.in_ok-add_constant.ensures {u = tt}).form ∙ ap (λ f. plus_constant f c.of_int.result) c.zero-form.ensures ∙ ap (λ q. plus_constant (constant_form zeroℚ) q) same
    ∙ ap (λ q. constant_form q) (law ℚ_ring (whole c.args.number ∷ whole c.args.number ∷ []) (λ q r. (num 0 ⊕ q) ≐ q) refl)
