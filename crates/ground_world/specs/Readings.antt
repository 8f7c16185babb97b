-- Believed: under what the code reads an expression, and what it is reckoned as there.
use Rattle.pddl_terms.specs.declared.trees.ExprTree.{ExprTree}
use Rattle.ground_world.specs.World.{World, Env}
use Rattle.ground_world.specs.Expressions.{Unknowns, Reckoned, reckoned}
use Rattle.ground_world.specs.Shown.{env_of, world_of}
use Rattle.ground_world.specs.declared.readings.MetricNames.{MetricNames}
use Rattle.ground_world.specs.declared.readings.Reading.{Reading}

abbrev pub unknowns_of : MetricNames → Unknowns
unknowns_of n = record { preferences = n.preferences; costs = n.costs }

-- the world, the unknowns and the binding of a reading
abbrev pub world_in : Reading → World
world_in r = world_of r.tables.now

abbrev pub unknowns_in : Reading → Unknowns
unknowns_in r = unknowns_of r.names.now

abbrev pub env_in : Reading → Env
env_in r = env_of r.env.now

-- what an expression is reckoned as under a reading
abbrev pub reckoned_in : Reading → ExprTree → Reckoned
reckoned_in r e = reckoned (world_in r) (unknowns_in r) (env_in r) e
