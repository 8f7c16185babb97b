use Rattle.std.proofs.Common.{ℕ, ◌+◌, ◌*◌, ◌-◌, ◌++◌, get_or, arith, ap, sym, ◌∙◌}
use Rattle.plan_text.specs.Quotients.{leading}
use Rattle.plan_text.proofs.DigitNumbers.{leading-digit}
use Rattle.plan_text.proofs.digits.Digits.aligned.Goals as goal

pub returns-else-i-zeros-clause-value : goal.returns-else-i-zeros-clause-value
returns-else-i-zeros-clause-value c =
    let ds = c.args.self.now.front.now ++ c.args.self.now.back.now in
    let len = c.len.ensures in
    let digit = c.digit.ensures.value ∙ ap (λ (b : ℕ). b - 48) (c.byte.ensures ∙ ap (λ (l : ℕ). get_or ds (c.args.i - (c.args.total - l)) 0) len) in
    leading-digit ds c.args.total c.args.i c.requires.total (omega (arith, c.if-i-zeros.false)) c.requires.inside ∙ ap (λ (b : ℕ). 10 * leading ds c.args.total c.args.i + b) (sym digit)
