use Rattle.std.proofs.Common.{refl}
use Rattle.ground_world.specs.Counts.{goal_count}
use Rattle.ground_world.specs.Shown.{world_of}
use Rattle.ground_world.proofs.bindings_limit.goal_fits.Goals as goal

pub returns : goal.returns
returns c = c.fit_limits.ensures 1 (goal_count (world_of c.args.tables.now) c.args.goal.now) refl c.in_ok-parts.ensures
