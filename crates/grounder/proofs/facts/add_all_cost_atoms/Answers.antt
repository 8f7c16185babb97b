use Rattle.ground_world.specs.Shown.{world_of}
use Rattle.grounder.proofs.FactSteps.{cost-fits, costs-more}
use Rattle.grounder.proofs.facts.add_all_cost_atoms.Goals as goal

pub add_cost_atoms-requires : goal.add_cost_atoms-requires
add_cost_atoms-requires c = cost-fits (world_of c.args.tables.now) c.args.costs.now c.loop-cost.cost-index c.cost-item.result c.loop-cost-test.true c.cost-item.is c.requires

pub loop-cost-preserved : goal.loop-cost-preserved
loop-cost-preserved c =
    costs-more (world_of c.args.tables.now) c.args.costs.now c.loop-cost.cost-index c.cost-item.result c.args.atoms.now c.loop-cost.atoms c.add_cost_atoms.new.atoms c.loop-cost-test.true c.cost-item.is
    c.loop-cost.invariant c.in_ok-add_cost_atoms.ensures
