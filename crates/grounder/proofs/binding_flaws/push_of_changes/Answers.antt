use Rattle.ground_world.specs.Shown.{env_of, world_of}
use Rattle.ground_world.specs.ShownChanges.{change_of, changes_of}
use Rattle.grounder.specs.Instances.{flaws_of, change_reckons}
use Rattle.grounder.specs.Bindings.{change_flaws}
use Rattle.grounder.proofs.Pushing.{pushed}
use Rattle.grounder.proofs.Flawed.{of_changes-more}
use Rattle.grounder.proofs.binding_flaws.push_of_changes.Goals as goal

pub loop-staged-preserved : goal.loop-staged-preserved
loop-staged-preserved c =
    let w = world_of c.args.tables.now in
    let e = env_of c.args.env.now in
    pushed (λ cs. change_flaws w e (changes_of cs)) (λ x. flaws_of (change_reckons w e (change_of x.change))) (of_changes-more w e)
    c.args.flaws.now c.loop-staged.flaws c.push_of_change.new.flaws c.args.changes.now c.loop-staged.staged-index c.staged-item.result c.loop-staged-test.true c.staged-item.is c.loop-staged.invariant c.in_ok-push_of_change.ensures
