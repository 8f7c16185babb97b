use Rattle.pddl_forms.specs.TimeCosts.{time_cost_offences}
use Rattle.pddl_forms.proofs.Least.{least-next}
use Rattle.pddl_forms.proofs.forms.least_of_time_costs.Goals as goal

pub loop-cost-preserved : goal.loop-cost-preserved
loop-cost-preserved c = least-next (time_cost_offences c.args.functions.now) c.args.found c.loop-cost.found c.least_of_time_cost-found.result c.args.costs.now c.loop-cost.cost-index c.cost-item.result c.loop-cost-test.true c.cost-item.is c.loop-cost.invariant c.least_of_time_cost-found.ensures
