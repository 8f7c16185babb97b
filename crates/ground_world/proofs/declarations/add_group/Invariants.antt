use Rattle.std.proofs.Common.{List, take, ◌∷◌, []}
use Rattle.std.specs.List.{flat_map}
use Rattle.pddl_names.specs.Declarations.{Typed, type_bytes, with_firsts}
use Rattle.ground_world.specs.Building.{Lists}
use Rattle.ground_world.proofs.declarations.add_group.Given as goal

abbrev pub invariant-loop-name : goal.invariant-loop-name
invariant-loop-name l = (es : List Typed) → Lists l.fn.objects.names l.fn.objects.values es
    → Lists l.objects.names l.objects.values (with_firsts es (flat_map (λ n. (n.bytes, type_bytes l.group.of) ∷ []) (take l.name-index l.name-items)))
