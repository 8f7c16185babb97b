use Rattle.ground_world.specs.Counts.{trajectory_count}
use Rattle.ground_world.specs.Shown.{world_of}
use Rattle.ground_world.proofs.leaf_limits.trajectory_fits.Goals as goal

pub returns : goal.returns
returns c = λ n h. c.fit_limits.ensures n (trajectory_count (world_of c.args.tables.now) c.args.trajectory.now) h c.in_ok-parts.ensures
