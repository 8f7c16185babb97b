use Rattle.std.proofs.Common.{take}
use Rattle.pddl_names.specs.Files.{declared_name}
use Rattle.pddl_names.proofs.Doubling.{Doubled}
use Rattle.pddl_names.proofs.declarations.first_double_of_declared.Given as goal

abbrev pub invariant-loop-item : goal.invariant-loop-item
invariant-loop-item l = Doubled declared_name l.initial.seen l.seen l.found (take l.item-index l.list)
