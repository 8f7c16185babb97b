use Rattle.std.proofs.Common.{◌≡◌, take}
use Rattle.ground_world.specs.Building.{fitting_places}
use Rattle.ground_world.proofs.columns.fitting_places.Given as goal

abbrev pub invariant-loop-place : goal.invariant-loop-place
invariant-loop-place l = l.places ≡ fitting_places l.types (take l.place l.sorts) l.sort
