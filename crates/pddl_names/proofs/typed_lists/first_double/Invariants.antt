use Rattle.std.proofs.Common.{take}
use Rattle.pddl_names.proofs.Doubling.{Doubled}
use Rattle.pddl_names.proofs.typed_lists.first_double.Given as goal

abbrev pub invariant-loop-group : goal.invariant-loop-group
invariant-loop-group l = Doubled (λ g. g.names) l.initial.seen l.seen l.found (take l.group-index l.groups)
