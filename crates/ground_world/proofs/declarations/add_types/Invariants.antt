use Rattle.std.proofs.Common.{◌≡◌, take, ◌∷◌, []}
use Rattle.std.specs.List.{flat_map}
use Rattle.pddl_names.specs.Declarations.{type_bytes, with_firsts}
use Rattle.ground_world.proofs.declarations.add_types.Given as goal

abbrev pub invariant-loop-name : goal.invariant-loop-name
invariant-loop-name l = l.types ≡ with_firsts l.initial.types (flat_map (λ n. (n.bytes, type_bytes l.group.of) ∷ []) (take l.name-index l.name-items))
