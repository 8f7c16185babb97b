use Rattle.std.proofs.Common.{◌≡◌, take}
use Rattle.ground_world.specs.Shown.{env_of}
use Rattle.ground_world.specs.ShownBounds.{bounds_of}
use Rattle.grounder.specs.ShownGrounding.{ground_of}
use Rattle.grounder.specs.Building.{all_bounds}
use Rattle.grounder.proofs.bounds.bounds.Given as goal

abbrev pub invariant-loop-bound : goal.invariant-loop-bound
invariant-loop-bound l = l.out ≡ all_bounds (ground_of l.grounding) (env_of l.env) (bounds_of (take l.bound-index l.bounds))
