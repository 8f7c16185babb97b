use Rattle.ground_world.specs.Counts.{soft_count}
use Rattle.ground_world.specs.Shown.{world_of}
use Rattle.ground_world.proofs.leaf_limits.soft_fits.Goals as goal

pub returns : goal.returns
returns c = λ n h. c.fit_limits.ensures n (soft_count (world_of c.args.tables.now) c.args.body.now) h c.in_ok-parts.ensures
