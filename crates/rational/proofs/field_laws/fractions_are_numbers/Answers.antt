use Rattle.rational.proofs.Fractions.{ratio-parts, equal_ratios, cross_from_equal}
use Rattle.rational.proofs.field_laws.fractions_are_numbers.Goals as goal

pub returns-clause-equal : goal.returns-clause-equal
returns-clause-equal _ = λ a b c d h k. (cross_from_equal a b c d h k, equal_ratios a b c d h k)

pub returns-clause-every : goal.returns-clause-every
returns-clause-every _ = ratio-parts
