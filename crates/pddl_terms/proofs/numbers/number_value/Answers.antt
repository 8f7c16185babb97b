use Rattle.std.proofs.Common.{◌∙◌, sym, ap, if◌then◌else◌}
use Rattle.rational.specs.Rational.{neg_ℚ}
use Rattle.pddl_terms.specs.Numbers.{number_value, size}
use Rattle.pddl_terms.proofs.Digits.{number-few}
use Rattle.pddl_terms.proofs.numbers.number_value.Goals as goal

pub size-size-requires : goal.size-size-requires
size-size-requires c = number-few _ c.requires

pub returns-then-is_negative : goal.returns-then-is_negative
unfolding number_value
returns-then-is_negative c = c.neg.ensures ∙ ap neg_ℚ c.size-size.ensures
    ∙ sym (ap (λ b. if b then neg_ℚ (size c.args.bytes.now) else size c.args.bytes.now) (sym c.is_negative.ensures ∙ c.if-is_negative.true))

pub returns-else-is_negative : goal.returns-else-is_negative
unfolding number_value
returns-else-is_negative c = c.size-size.ensures
    ∙ sym (ap (λ b. if b then neg_ℚ (size c.args.bytes.now) else size c.args.bytes.now) (sym c.is_negative.ensures ∙ c.if-is_negative.false))
