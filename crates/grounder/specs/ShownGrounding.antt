-- Believed: what the code's tables say of the numbers and weights of a ground task.
use Rattle.ground_world.specs.Shown.{world_of}
use Rattle.ground_world.specs.Readings.{unknowns_of}
use Rattle.grounder.specs.Task.{Ground}
use Rattle.grounder.specs.declared.grounding.Grounding.{Grounding}

abbrev pub ground_of : Grounding → Ground
ground_of g = record {
  world = world_of g.tables;
  facts = g.facts;
  unknowns = unknowns_of g.names;
  cost = g.cost;
}
