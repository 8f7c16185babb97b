use Rattle.std.proofs.Common.{◌≡◌, ◌++◌, map, take}
use Rattle.pddl_names.specs.Declarations.{type_bytes}
use Rattle.ground_world.proofs.declarations.push_sorts.Given as goal

abbrev pub invariant-loop-name : goal.invariant-loop-name
invariant-loop-name l = l.sorts ≡ l.fn.sorts ++ map (λ n. type_bytes l.group.of) (take l._name-index l._name-items)
