use Rattle.std.proofs.Common.{◌≡◌, ◌++◌, take}
use Rattle.std.specs.List.{flat_map}
use Rattle.ground_world.specs.FirstState.{unvalued_places}
use Rattle.ground_world.specs.Shown.{env_of, world_of}
use Rattle.ground_world.specs.ShownChanges.{changes_of}
use Rattle.grounder.specs.Instances.{change_mentions}
use Rattle.grounder.proofs.mentions.push_in_changes.Given as goal

abbrev pub invariant-loop-staged : goal.invariant-loop-staged
invariant-loop-staged l = l.out ≡ l.fn.out ++ unvalued_places (world_of l.tables) (flat_map (λ c. change_mentions (world_of l.tables) (env_of l.env) c.part) (changes_of (take l.staged-index l.changes)))
