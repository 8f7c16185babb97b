use Rattle.std.proofs.Common.{◌≡◌, take, map, ◌++◌}
use Rattle.ground_world.specs.Shown.{names_of, columns_of}
use Rattle.ground_world.proofs.choosing.push_group.Given as goal

abbrev pub invariant-loop-name : goal.invariant-loop-name
invariant-loop-name l = (names_of l.out ≡ names_of l.fn.out ++ map (λ n. n.bytes) (take l.name-index l.names)) × (columns_of l.out ≡ columns_of l.fn.out ++ map (λ n. l.column) (take l.name-index l.names))
