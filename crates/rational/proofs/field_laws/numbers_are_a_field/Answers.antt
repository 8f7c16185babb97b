use Rattle.rational.specs.Rational.{oneℚ}
use Rattle.rational.proofs.Order.{mul-inverse, whole_positive}
use Rattle.rational.proofs.Inequalities.{positive_not_zero}
use Rattle.rational.proofs.field_laws.numbers_are_a_field.Goals as goal

pub returns-clause-inverses : goal.returns-clause-inverses
returns-clause-inverses _ = mul-inverse

pub returns-clause-distinct : goal.returns-clause-distinct
returns-clause-distinct _ = positive_not_zero oneℚ (whole_positive 0)
