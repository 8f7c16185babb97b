use Rattle.std.proofs.Common.{◌≡◌, take}
use Rattle.std.specs.List.{flat_map}
use Rattle.ground_world.specs.Shown.{env_of}
use Rattle.ground_world.specs.ShownChanges.{changes_of}
use Rattle.grounder.specs.ShownGrounding.{ground_of}
use Rattle.grounder.specs.Task.{fluent_rates}
use Rattle.grounder.proofs.rates.rates.Given as goal

abbrev pub invariant-loop-staged : goal.invariant-loop-staged
invariant-loop-staged l = l.out ≡ flat_map (λ c. fluent_rates (ground_of l.grounding) (env_of l.env) c.part) (changes_of (take l.staged-index l.changes))
