use Rattle.pddl_terms.proofs.Ascending.{item_is_least}
use Rattle.pddl_terms.proofs.Least.{first_is_least}
use Rattle.pddl_terms.proofs.FileOrder.{file_is_least}
use Rattle.pddl_terms.proofs.laws.first_is_least.Goals as goal

pub returns : goal.returns
returns c = record { item = item_is_least; list = first_is_least; file = file_is_least }
