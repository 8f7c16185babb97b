use Rattle.std.proofs.Common.{take}
use Rattle.pddl_names.specs.Files.{cost_name}
use Rattle.pddl_names.proofs.Doubling.{Doubled}
use Rattle.pddl_names.proofs.problems.first_double_of_costs.Given as goal

abbrev pub invariant-loop-item : goal.invariant-loop-item
invariant-loop-item l = Doubled cost_name l.initial.seen l.seen l.found (take l.item-index l.costs)
