use Rattle.std.proofs.Common.{◌≡◌, take}
use Rattle.pddl_names.specs.Declarations.{sorts_of}
use Rattle.ground_world.proofs.declarations.sorts_of.Given as goal

abbrev pub invariant-loop-group : goal.invariant-loop-group
invariant-loop-group l = l.sorts ≡ sorts_of (take l.group-index l.groups)
