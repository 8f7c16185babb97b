use Rattle.ground_world.specs.Shown.{env_of}
use Rattle.grounder.specs.ShownGrounding.{ground_of}
use Rattle.grounder.proofs.BuildingSteps.{effect-step}
use Rattle.grounder.proofs.action_effects.effect.Goals as goal

pub loop-staged-preserved : goal.loop-staged-preserved
loop-staged-preserved c =
    effect-step (ground_of c.args.grounding.now) c.args.durative (env_of c.args.env.now) c.args.stage.now c.args.changes.now c.loop-staged.staged-index c.staged-item.result
    c.loop-staged-test.true c.staged-item.is c.loop-staged.effect c.push_change_at.new.effect c.loop-staged.invariant c.in_ok-push_change_at.ensures
