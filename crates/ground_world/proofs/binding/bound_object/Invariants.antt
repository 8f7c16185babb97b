use Rattle.std.proofs.Common.{◌≡◌, drop}
use Rattle.ground_world.specs.World as world
use Rattle.ground_world.specs.Shown.{env_of}
use Rattle.ground_world.proofs.binding.bound_object.Given as goal

abbrev pub invariant-loop-entry : goal.invariant-loop-entry
invariant-loop-entry l = world.object_at l.found (env_of (drop l.entry-index l.env)) l.name ≡ world.bound (env_of l.env) l.name
