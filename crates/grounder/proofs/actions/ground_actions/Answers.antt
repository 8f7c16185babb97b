use Rattle.std.proofs.Common.{arith}
use Rattle.ground_world.specs.Shown.{world_of}
use Rattle.grounder.specs.ShownGrounding.{ground_of}
use Rattle.grounder.proofs.ActionNumbers.{actions-before, actions-step, snaps-step, few-step, within-limit}
use Rattle.grounder.proofs.actions.ground_actions.Goals as goal

pub push_instance-requires-clause-fits : goal.push_instance-requires-clause-fits
push_instance-requires-clause-fits c =
    within-limit c.args.instances.now c.loop-instance.instance-index c.instance-item.result c.loop-instance-test.true c.instance-item.is (world_of c.args.grounding.now.tables) c.requires.fit

pub push_instance-requires-clause-few_actions : goal.push_instance-requires-clause-few_actions
push_instance-requires-clause-few_actions c =
    let n = actions-before c.args.instances.now c.loop-instance.instance-index c.instance-item.result c.loop-instance-test.true c.instance-item.is
    (ground_of c.args.grounding.now) c.loop-instance.out.actions c.loop-instance.out.snaps c.loop-instance.invariant.actions c.loop-instance.invariant.snaps in
    omega (arith, n, c.requires.few, c.loop-instance-test.true)

pub push_instance-requires-clause-few_snaps : goal.push_instance-requires-clause-few_snaps
push_instance-requires-clause-few_snaps c = omega (arith, c.loop-instance.invariant.few, c.requires.few, c.loop-instance-test.true)

pub loop-instance-preserved : goal.loop-instance-preserved
loop-instance-preserved c =
    let xs = c.args.instances.now in
    let i = c.loop-instance.instance-index in
    let x = c.instance-item.result in
    let g = ground_of c.args.grounding.now in
    let as_before = c.loop-instance.out.actions in
    let before = c.loop-instance.out.snaps in
    record {
      actions = actions-step xs i x c.loop-instance-test.true c.instance-item.is g as_before before c.loop-instance.invariant.actions c.loop-instance.invariant.snaps c.push_instance.new.out.actions c.in_ok-push_instance.ensures.actions;
      snaps = snaps-step xs i x c.loop-instance-test.true c.instance-item.is g as_before before c.loop-instance.invariant.actions c.loop-instance.invariant.snaps c.push_instance.new.out.snaps c.in_ok-push_instance.ensures.snaps;
      few = few-step xs i x c.loop-instance-test.true c.instance-item.is g as_before before c.loop-instance.invariant.actions c.loop-instance.invariant.snaps c.push_instance.new.out.snaps c.in_ok-push_instance.ensures.snaps c.loop-instance.invariant.few;
    }
