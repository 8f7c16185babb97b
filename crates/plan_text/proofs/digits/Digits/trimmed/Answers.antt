use Rattle.std.proofs.Common.{ℕ, sym, ap, ◌∙◌}
use Rattle.basics.specs.Texts.{number_after}
use Rattle.basics.proofs.Texts.{number_after-append}
use Rattle.plan_text.proofs.digits.Digits.trimmed.Goals as goal

pub returns-clause-number : goal.returns-clause-number
returns-clause-number c =
    let back = c.args.self.now.back.now in
    number_after-append 0 c.without_zeros.result.now back ∙ ap (λ (n : ℕ). number_after n back) c.without_zeros.ensures.number ∙ sym (number_after-append 0 c.args.self.now.front.now back)
