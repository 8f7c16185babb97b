use Rattle.std.proofs.Common.{◌≡◌, take}
use Rattle.pddl_names.specs.Declarations.{typed, with_firsts}
use Rattle.pddl_names.proofs.typed_lists.add_typed.Given as goal

abbrev pub invariant-loop-group : goal.invariant-loop-group
invariant-loop-group l = l.table ≡ with_firsts l.initial.table (typed (take l.group-index l.groups))
