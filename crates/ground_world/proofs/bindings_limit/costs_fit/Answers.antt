use Rattle.std.proofs.Common.{sym, ◌∙◌}
use Rattle.std.specs.List.{list_all}
use Rattle.pddl_terms.specs.declared.files.TimeCost.{TimeCost}
use Rattle.ground_world.specs.Leaves.{cost_of}
use Rattle.ground_world.specs.Counting.{cost_fits}
use Rattle.ground_world.specs.Shown.{world_of}
use Rattle.ground_world.proofs.LeafLimits.{one-more, one-fails, all-looked}
use Rattle.ground_world.proofs.bindings_limit.costs_fit.Goals as goal

pub loop-cost-preserved : goal.loop-cost-preserved
loop-cost-preserved c =
    let w = world_of c.args.tables.now in
    one-more (λ (x : TimeCost). list_all (cost_fits w) (cost_of x)) c.args.costs.now c.loop-cost.cost-index c.cost-item.result c.loop-cost-test.true c.cost-item.is
    c.loop-cost.invariant (sym c.in_ok-cost_fits.ensures ∙ c.if-not-branch.false)

pub returns-then-not-branch : goal.returns-then-not-branch
returns-then-not-branch c =
    let w = world_of c.args.tables.now in
    one-fails (λ (x : TimeCost). list_all (cost_fits w) (cost_of x)) c.args.costs.now c.loop-cost.cost-index c.cost-item.result c.loop-cost-test.true c.cost-item.is
    (sym c.in_ok-cost_fits.ensures ∙ c.if-not-branch.true)

pub returns : goal.returns
returns c =
    let w = world_of c.args.tables.now in
    all-looked (λ (x : TimeCost). list_all (cost_fits w) (cost_of x)) c.args.costs.now c.loop-cost.cost-index c.loop-cost-test.false c.loop-cost.invariant
