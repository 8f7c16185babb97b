use Rattle.std.proofs.Common.{◌≡◌, ◌++◌, drop}
use Rattle.ground_world.specs.Bindings.{paired}
use Rattle.ground_world.specs.Shown.{env_of, names_of}
use Rattle.grounder.proofs.actions.pair.Given as goal

abbrev pub invariant-loop-at : goal.invariant-loop-at
invariant-loop-at l = env_of l.env ++ paired (names_of (drop l.at l.slots)) (drop l.at l.objects) ≡ paired (names_of l.slots) l.objects
