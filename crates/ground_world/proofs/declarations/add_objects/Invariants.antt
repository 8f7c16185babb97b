use Rattle.std.proofs.Common.{List, take}
use Rattle.pddl_names.specs.Declarations.{Typed, typed, with_firsts}
use Rattle.ground_world.specs.Building.{Lists}
use Rattle.ground_world.proofs.declarations.add_objects.Given as goal

abbrev pub invariant-loop-group : goal.invariant-loop-group
invariant-loop-group l = (es : List Typed) → Lists l.fn.objects.names l.fn.objects.values es
    → Lists l.objects.names l.objects.values (with_firsts es (typed (take l.group-index l.groups)))
