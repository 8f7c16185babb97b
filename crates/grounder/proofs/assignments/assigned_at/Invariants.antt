use Rattle.std.proofs.Common.{◌≡◌, take}
use Rattle.std.specs.List.{flat_map}
use Rattle.ground_world.specs.Changes.{parts_at}
use Rattle.ground_world.specs.Shown.{env_of, world_of}
use Rattle.ground_world.specs.ShownChanges.{changes_of}
use Rattle.grounder.specs.Instances.{assigned_by}
use Rattle.grounder.proofs.assignments.assigned_at.Given as goal

abbrev pub invariant-loop-staged : goal.invariant-loop-staged
invariant-loop-staged l = l.out ≡ flat_map (assigned_by (world_of l.tables) (env_of l.env)) (parts_at l.stage (changes_of (take l.staged-index l.changes)))
