use Rattle.std.proofs.Common.{take, []}
use Rattle.std.specs.List.{flat_map}
use Rattle.pddl_names.specs.Declarations.{signature_of, with_firsts}
use Rattle.ground_world.specs.Building.{Lists}
use Rattle.ground_world.proofs.declarations.signatures.Given as goal

abbrev pub invariant-loop-declared : goal.invariant-loop-declared
invariant-loop-declared l = Lists l.found.names l.found.values (with_firsts [] (flat_map signature_of (take l.declared-index l.list)))
