use Rattle.std.proofs.Common.{◌≡◌, take}
use Rattle.pddl_names.specs.Fitting.{is_nothing}
use Rattle.ground_world.specs.Building.{places_passing}
use Rattle.ground_world.proofs.columns.untyped_places.Given as goal

abbrev pub invariant-loop-place : goal.invariant-loop-place
invariant-loop-place l = l.places ≡ places_passing is_nothing (take l.place l.sorts)
