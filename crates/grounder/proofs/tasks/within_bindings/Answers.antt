use Rattle.std.proofs.Common.{sym}
use Rattle.ground_world.specs.Shown.{world_of}
use Rattle.grounder.specs.Task.{fact_atoms}
use Rattle.grounder.proofs.GroundingParts.{facts-given, facts-many}
use Rattle.grounder.proofs.tasks.within_bindings.Goals as goal

pub with_facts-requires-clause-facts : goal.with_facts-requires-clause-facts
with_facts-requires-clause-facts c = (facts-given (fact_atoms (world_of c.args.tables) c.args.domain.now c.args.problem.now) c.in_ok-facts.field-0 c.in_ok-facts.ensures c.in-Some.facts c.in-Some.is).0

pub with_facts-requires-clause-few : goal.with_facts-requires-clause-few
with_facts-requires-clause-few c = (facts-given (fact_atoms (world_of c.args.tables) c.args.domain.now c.args.problem.now) c.in_ok-facts.field-0 c.in_ok-facts.ensures c.in-Some.facts c.in-Some.is).1

pub crowded_fault-requires-clause-many : goal.crowded_fault-requires-clause-many
crowded_fault-requires-clause-many c = facts-many (fact_atoms (world_of c.args.tables) c.args.domain.now c.args.problem.now) c.in_ok-facts.field-0 c.in_ok-facts.ensures c.in-None.is

pub returns-in_ok-fault-in-None : goal.returns-in_ok-fault-in-None
returns-in_ok-fault-in-None c = sym c.in_ok-fault-in-None.ensures
