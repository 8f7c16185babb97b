use Rattle.std.proofs.Common.{◌≡◌, take}
use Rattle.pddl_names.specs.Declarations.{signatures, with_firsts}
use Rattle.pddl_names.proofs.declarations.add_all_declared.Given as goal

abbrev pub invariant-loop-item : goal.invariant-loop-item
invariant-loop-item l = l.table ≡ with_firsts l.initial.table (signatures (take l.item-index l.list))
