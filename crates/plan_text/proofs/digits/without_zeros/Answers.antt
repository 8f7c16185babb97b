use Rattle.std.proofs.Common.{sym, subst}
use Rattle.std.proofs.lemmas.List.{take_rest}
use Rattle.plan_text.specs.Quotients.{AreDigits}
use Rattle.plan_text.proofs.DigitNumbers.{digits_drop}
use Rattle.plan_text.proofs.digits.without_zeros.Goals as goal

pub returns-clause-digits : goal.returns-clause-digits
returns-clause-digits c = subst AreDigits (sym (take_rest c.args.text.now c.loop-zeros.zeros)) (digits_drop c.loop-zeros.zeros c.args.text.now c.requires)
