use Rattle.std.proofs.Common.{◌≡◌, take, []}
use Rattle.pddl_names.specs.Declarations.{typed, with_firsts}
use Rattle.ground_world.proofs.declarations.types.Given as goal

abbrev pub invariant-loop-group : goal.invariant-loop-group
invariant-loop-group l = l.types ≡ with_firsts [] (typed (take l.group-index l.group-items))
