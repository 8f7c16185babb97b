use Rattle.std.proofs.Common.{◌≡◌, ◌∙◌, ◌-◌, ◌∷◌, suc, ap, sym, arith}
use Rattle.rational.specs.Rational.{zeroℚ}
use Rattle.task_types.specs.Tests.{◌≤?◌}
use Rattle.plan_validator.specs.Following.{is_soon}
use Rattle.plan_validator.proofs.Meeting.{soon-there, soon-past}
use Rattle.plan_validator.proofs.constraints.is_soon.Goals as goal

pub returns-in-Some : goal.returns-in-Some
returns-in-Some c =
    let e : suc (c.args.state - 1) ≡ c.args.state = omega (arith, c.if-state-eq0.false) in
    c.is_at_most-in-Some.ensures ∙ ap (λ t. t ≤? c.args.moment) (c.in-Some.ensures.lookup.3.1 zeroℚ) ∙ sym (soon-there c.args.moment c.args.times.now (c.args.state - 1) zeroℚ c.in-Some.ensures.lookup.3.0)
    ∙ ap (λ k. is_soon c.args.moment (zeroℚ ∷ c.args.times.now) k) e

pub returns-in-None : goal.returns-in-None
returns-in-None c =
    let e : suc (c.args.state - 1) ≡ c.args.state = omega (arith, c.if-state-eq0.false) in
    sym (soon-past c.args.moment c.args.times.now (c.args.state - 1) c.in-None.ensures.lookup.3) ∙ ap (λ k. is_soon c.args.moment (zeroℚ ∷ c.args.times.now) k) e
