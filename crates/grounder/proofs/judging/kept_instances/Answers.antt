use Rattle.std.proofs.Common.{refl, ap}
use Rattle.ground_world.specs.World.{columns}
use Rattle.ground_world.specs.Bindings.{choice_count}
use Rattle.ground_world.specs.Counts.{body_count, fit_limits}
use Rattle.ground_world.specs.Shown.{world_of}
use Rattle.grounder.specs.Instances.{kept, wide_in_actions}
use Rattle.grounder.specs.ShownInstances.{all_of}
use Rattle.grounder.proofs.BindingSteps.{kept-action, wide-action}
use Rattle.grounder.proofs.Each.{passes}
use Rattle.grounder.proofs.judging.kept_instances.Goals as goal

pub judge_action-requires : goal.judge_action-requires
judge_action-requires c =
    let w = world_of c.args.tables.now in
    passes (λ a. fit_limits (choice_count (columns w a.parameters)) (body_count w a.body)) c.args.actions.now c.loop-action.action-index c.action-item.result
    c.loop-action-test.true c.action-item.is c.requires

pub loop-action-init : goal.loop-action-init
unfolding kept wide_in_actions
loop-action-init c = record { instances = ap all_of c.new.ensures; wide = refl }

pub loop-action-preserved : goal.loop-action-preserved
loop-action-preserved c =
    let w = world_of c.args.tables.now in
    record {
      instances = kept-action w c.args.actions.now c.loop-action.action-index c.action-item.result c.loop-action-test.true c.action-item.is
          (all_of c.loop-action.found.instances) (all_of c.judge_action.new.found.instances) c.loop-action.invariant.instances c.in_ok-judge_action.ensures.instances;
      wide = wide-action w c.args.actions.now c.loop-action.action-index c.action-item.result c.loop-action-test.true c.action-item.is
          c.loop-action.found.wide c.judge_action.new.found.wide c.loop-action.invariant.wide c.in_ok-judge_action.ensures.wide;
    }
