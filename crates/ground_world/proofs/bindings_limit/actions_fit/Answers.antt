use Rattle.std.proofs.Common.{sym, ◌∙◌}
use Rattle.ground_world.specs.Counting.{action_fits}
use Rattle.ground_world.specs.Shown.{world_of}
use Rattle.ground_world.proofs.LeafLimits.{one-more, one-fails, all-looked}
use Rattle.ground_world.proofs.bindings_limit.actions_fit.Goals as goal

pub loop-action-preserved : goal.loop-action-preserved
loop-action-preserved c =
    let w = world_of c.args.tables.now in
    one-more (action_fits w) c.args.actions.now c.loop-action.action-index c.action-item.result c.loop-action-test.true c.action-item.is
    c.loop-action.invariant (sym c.in_ok-action_fits.ensures ∙ c.if-not-branch.false)

pub returns-then-not-branch : goal.returns-then-not-branch
returns-then-not-branch c =
    let w = world_of c.args.tables.now in
    one-fails (action_fits w) c.args.actions.now c.loop-action.action-index c.action-item.result c.loop-action-test.true c.action-item.is
    (sym c.in_ok-action_fits.ensures ∙ c.if-not-branch.true)

pub returns : goal.returns
returns c =
    let w = world_of c.args.tables.now in
    all-looked (action_fits w) c.args.actions.now c.loop-action.action-index c.loop-action-test.false c.loop-action.invariant
