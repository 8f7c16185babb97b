use Rattle.std.proofs.Common.{◌≡◌, ◌++◌, take}
use Rattle.std.specs.List.{flat_map}
use Rattle.ground_world.specs.FirstState.{unvalued_places}
use Rattle.ground_world.specs.Expressions.{mentioned}
use Rattle.ground_world.specs.Shown.{env_of, world_of}
use Rattle.ground_world.specs.ShownBounds.{bounds_of}
use Rattle.grounder.proofs.mentions.push_in_bounds.Given as goal

abbrev pub invariant-loop-bound : goal.invariant-loop-bound
invariant-loop-bound l = l.out ≡ l.fn.out ++ unvalued_places (world_of l.tables) (flat_map (λ b. mentioned (world_of l.tables) (env_of l.env) b.expression) (bounds_of (take l.bound-index l.bounds)))
