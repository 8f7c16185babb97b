use Rattle.std.proofs.Common.{take}
use Rattle.pddl_names.specs.Files.{valued_fluent}
use Rattle.pddl_names.proofs.Doubling.{Doubled}
use Rattle.pddl_names.proofs.problems.first_double_of_entries.Given as goal

abbrev pub invariant-loop-item : goal.invariant-loop-item
invariant-loop-item l = Doubled valued_fluent l.initial.seen l.seen l.found (take l.item-index l.entries)
