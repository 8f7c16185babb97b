use Rattle.pddl_names.proofs.Orders.{fits_in_order}
use Rattle.pddl_names.proofs.laws.fitting_is_an_order.Goals as goal

pub returns : goal.returns
returns c = fits_in_order
