use Rattle.std.proofs.Common.{sym, subst, Option, [], ◌∷◌, IfOk}
use Rattle.pddl_terms.specs.declared.files.Metric.{Metric}
use Rattle.ground_world.specs.Readings.{unknowns_of}
use Rattle.ground_world.specs.Shown.{world_of}
use Rattle.ground_world.specs.World.{either}
use Rattle.grounder.specs.ShownUnits.{AreLeast}
use Rattle.grounder.specs.Units.{metric_unit}
use Rattle.grounder.specs.declared.fault_places.FaultPlaces.{FaultPlaces}
use Rattle.grounder.proofs.units.objective_faults.Goals as goal

pub returns-in-Some : goal.returns-in-Some
returns-in-Some c =
    let w = world_of c.args.tables.now in
    let us = unknowns_of c.args.names.now in
    subst (λ (o : Option Metric). IfOk c.metric_faults.result (λ (found : FaultPlaces). AreLeast w (either [] (λ m. metric_unit w us m ∷ []) o) found)) (sym c.in-Some.is) c.metric_faults.ensures

pub returns-in-None : goal.returns-in-None
returns-in-None c =
    let w = world_of c.args.tables.now in
    let us = unknowns_of c.args.names.now in
    subst (λ (o : Option Metric). AreLeast w (either [] (λ m. metric_unit w us m ∷ []) o) c.no_faults.result) (sym c.in-None.is) (c.no_faults.ensures w)
