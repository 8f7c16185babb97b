use Rattle.std.proofs.Common.{◌≡◌, ◌++◌, take}
use Rattle.ground_world.specs.Shown.{env_of, world_of}
use Rattle.ground_world.specs.ShownBounds.{bounds_of}
use Rattle.grounder.specs.Bindings.{bound_flaws}
use Rattle.grounder.proofs.binding_flaws.push_of_bounds.Given as goal

abbrev pub invariant-loop-bound : goal.invariant-loop-bound
invariant-loop-bound l = l.flaws ≡ l.fn.flaws ++ bound_flaws (world_of l.tables) (env_of l.env) (bounds_of (take l.bound-index l.bounds))
