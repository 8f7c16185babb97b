use Rattle.std.proofs.Common.{◌≡◌, take}
use Rattle.ground_world.specs.Changes.{parts_at}
use Rattle.ground_world.specs.Shown.{env_of}
use Rattle.ground_world.specs.ShownChanges.{changes_of}
use Rattle.grounder.specs.ShownGrounding.{ground_of}
use Rattle.grounder.specs.Task.{effect}
use Rattle.grounder.proofs.action_effects.effect.Given as goal

abbrev pub invariant-loop-staged : goal.invariant-loop-staged
invariant-loop-staged l = l.effect ≡ effect (ground_of l.grounding) l.durative (env_of l.env) (parts_at l.stage (changes_of (take l.staged-index l.changes)))
