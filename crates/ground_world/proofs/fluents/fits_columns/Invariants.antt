use Rattle.std.proofs.Common.{◌≡◌, map, length}
use Rattle.ground_world.specs.Shown.{world_of}
use Rattle.ground_world.specs.Building.{fits_columns}
use Rattle.ground_world.proofs.fluents.fits_columns.Given as goal

abbrev pub invariant-loop-sort : goal.invariant-loop-sort
invariant-loop-sort l = fits_columns (map (world_of l.tables).fitting l.left) l.given ≡ fits_columns (map (world_of l.tables).fitting l.sorts) l.arguments

abbrev pub decreases-loop-sort : goal.decreases-loop-sort
decreases-loop-sort l = length l.left
