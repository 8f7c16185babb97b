use Rattle.std.specs.List.{flat_map}
use Rattle.ground_world.specs.FirstState.{unvalued_places}
use Rattle.ground_world.specs.Shown.{env_of, world_of}
use Rattle.ground_world.specs.ShownChanges.{change_of, changes_of}
use Rattle.grounder.specs.Instances.{change_mentions}
use Rattle.grounder.proofs.Pushing.{pushed}
use Rattle.grounder.proofs.MentionSteps.{in_changes-more}
use Rattle.grounder.proofs.mentions.push_in_changes.Goals as goal

pub loop-staged-preserved : goal.loop-staged-preserved
loop-staged-preserved c =
    let w = world_of c.args.tables.now in
    let e = env_of c.args.env.now in
    pushed (λ cs. unvalued_places w (flat_map (λ x. change_mentions w e x.part) (changes_of cs))) (λ x. unvalued_places w (change_mentions w e (change_of x.change))) (in_changes-more w e)
    c.args.out.now c.loop-staged.out c.push_in_change.new.out c.args.changes.now c.loop-staged.staged-index c.staged-item.result c.loop-staged-test.true c.staged-item.is c.loop-staged.invariant c.in_ok-push_in_change.ensures
