use Rattle.std.proofs.Common.{◌≡◌, take}
use Rattle.std.specs.List.{flat_map}
use Rattle.pddl_forms.specs.Offences.{least_with}
use Rattle.pddl_forms.specs.Limits.{time_cost_limits}
use Rattle.pddl_forms.proofs.limits.least_of_time_costs.Given as goal

abbrev pub invariant-loop-cost : goal.invariant-loop-cost
invariant-loop-cost l = l.found ≡ least_with l.fn.found (flat_map time_cost_limits (take l.cost-index l.costs))
