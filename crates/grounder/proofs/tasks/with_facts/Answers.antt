use Rattle.std.proofs.Common.{◌≡◌, subst, true}
use Rattle.ground_world.specs.World.{World}
use Rattle.ground_world.specs.Counts.{bindings_fit}
use Rattle.grounder.proofs.tasks.with_facts.Goals as goal

pub grounded-requires-clause-ground : goal.grounded-requires-clause-ground
grounded-requires-clause-ground c = c.in_ok-grounding.ensures c.args.domain.now c.requires.world c.requires.facts c.requires.names

pub grounded-requires-clause-fit : goal.grounded-requires-clause-fit
grounded-requires-clause-fit c = subst (λ (w : World). bindings_fit w c.args.domain.now c.args.problem.now ≡ true) c.requires.world c.requires.fit
