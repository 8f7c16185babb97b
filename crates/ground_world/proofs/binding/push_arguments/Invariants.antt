use Rattle.std.proofs.Common.{◌≡◌, ◌++◌, take, map}
use Rattle.ground_world.specs.World.{term_object}
use Rattle.ground_world.specs.Shown.{env_of, world_of}
use Rattle.ground_world.proofs.binding.push_arguments.Given as goal

abbrev pub invariant-loop-term : goal.invariant-loop-term
invariant-loop-term l = l.out ≡ l.fn.out ++ map (term_object (world_of l.tables) (env_of l.env)) (take l.term-index l.terms)
