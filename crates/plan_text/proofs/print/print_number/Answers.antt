use Rattle.plan_text.proofs.Spelling.{printed, number_text_spells}
use Rattle.std.proofs.Common.{◌≡◌, subst, sym}
use Rattle.plan_text.specs.Numbers.{Spells, number_text}
use Rattle.plan_text.proofs.print.print_number.Goals as goal
use Rattle.plan_text.proofs.print.print_number.Goals.{In_ok-push_unsigned}

text_is : (c : In_ok-push_unsigned) → c.push_unsigned.new.text.items ≡ number_text c.args.value
text_is c = printed _ _ _ _ _ _ c.new-text.ensures.items c.in_ok-push_sign.ensures c.in_ok-push_unsigned.ensures c.numerator.ensures.value c.denominator.ensures

pub returns-clause-text : goal.returns-clause-text
returns-clause-text c = text_is c

pub returns-clause-spells : goal.returns-clause-spells
returns-clause-spells c = subst (λ text. Spells text c.args.value) (sym (text_is c)) (number_text_spells _ c.numerator.ensures.fits)
