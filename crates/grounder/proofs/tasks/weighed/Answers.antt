use Rattle.ground_world.specs.Readings.{unknowns_of}
use Rattle.ground_world.specs.Shown.{world_of}
use Rattle.grounder.proofs.GroundingParts.{same_ground}
use Rattle.grounder.proofs.tasks.weighed.Goals as goal

pub returns : goal.returns
returns c = λ d h k j. same_ground d c.args.problem.now (world_of c.args.tables) c.args.facts (unknowns_of c.args.names) c.in_ok-cost.cost h k j c.in_ok-cost.ensures
