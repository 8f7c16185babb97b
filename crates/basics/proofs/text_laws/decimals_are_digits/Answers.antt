use Rattle.basics.proofs.Texts.{decimal-digits, decimal-count}
use Rattle.basics.proofs.text_laws.decimals_are_digits.Goals as goal

pub returns-clause-digits : goal.returns-clause-digits
returns-clause-digits _ = decimal-digits

pub returns-clause-all : goal.returns-clause-all
returns-clause-all _ = decimal-count
