use Rattle.plan_files.proofs.OrdersAreOne.{orderings-one, order_refusals-one, order_either}
use Rattle.plan_files.proofs.laws.order_files_are_one.Goals as goal

pub returns : goal.returns
returns c = record { orders = orderings-one; refusals = order_refusals-one; either = order_either }
