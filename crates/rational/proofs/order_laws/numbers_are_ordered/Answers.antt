use Rattle.rational.proofs.Order.{le_antisymm}
use Rattle.rational.proofs.Inequalities.{le_total, le_trans, lt_is}
use Rattle.rational.proofs.Comparisons.{cmp_ranks}
use Rattle.rational.proofs.order_laws.numbers_are_ordered.Goals as goal

pub returns-clause-total : goal.returns-clause-total
returns-clause-total _ = le_total

pub returns-clause-transitive : goal.returns-clause-transitive
returns-clause-transitive _ = le_trans

pub returns-clause-antisymmetric : goal.returns-clause-antisymmetric
returns-clause-antisymmetric _ = le_antisymm

pub returns-clause-strict : goal.returns-clause-strict
returns-clause-strict _ = lt_is

pub returns-clause-comparison : goal.returns-clause-comparison
returns-clause-comparison _ = cmp_ranks
