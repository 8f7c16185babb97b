use Rattle.std.proofs.Common.{refl}
use Rattle.ordering.proofs.MoreSteps.{over_none}
use Rattle.ordering.proofs.orderings.StepOrdering.new.Goals as goal

pub returns-clause-over : goal.returns-clause-over
returns-clause-over c task = over_none task _ c.new.ensures c.new-2.ensures c.new-3.ensures refl refl
