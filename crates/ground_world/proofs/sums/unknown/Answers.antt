use Rattle.std.proofs.Common.{ap, ap₂, ◌∙◌, ℕ, pos, []}
use Rattle.rational.specs.Rational.{ℚ, whole, ratio}
use Rattle.rational.specs.Gcd.{gcd}
use Rattle.exact_lin.specs.Forms.{LinearForm, plus_term}
use Rattle.ground_world.proofs.sums.unknown.Goals as goal

pub returns-in-Ok : goal.returns-in-Ok
unfolding whole ratio gcd
returns-in-Ok c =
    c.in-Ok.ensures.form ∙ ap (λ (f : LinearForm). plus_term f c.of.result c.of_int.result) c.zero-form.ensures
    ∙ ap₂ (λ (n : ℕ) (q : ℚ). plus_term (record { constant = whole (pos 0); terms = [] }) n q) c.of.ensures c.of_int.ensures
