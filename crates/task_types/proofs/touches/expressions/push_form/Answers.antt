use Rattle.std.proofs.Common.{◌≡◌, map, ℕ, arith}
use Rattle.std.proofs.lemmas.Grind.{common_steps}
use Rattle.rational.specs.Rational.{ℚ}
use Rattle.task_types.proofs.Shown.{firsts_shown}
use Rattle.task_types.proofs.touches.expressions.push_form.Goals as goal

pub returns : goal.returns
returns c =
    let same : map (λ (t : ℕ × ℚ). t.0) c.terms-term-items.result.now ≡ map (λ (t : ℕ × ℚ). t.0) c.args.form.now.terms = firsts_shown c.terms-term-items.result.now c.args.form.now.terms c.terms-term-items.ensures.value in
    grind (arith, common_steps)
