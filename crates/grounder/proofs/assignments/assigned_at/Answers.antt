use Rattle.std.proofs.Common.{[], ◌∷◌}
use Rattle.std.specs.List.{flat_map}
use Rattle.ground_world.specs.Changes.{parts_at}
use Rattle.ground_world.specs.Shown.{env_of, world_of}
use Rattle.ground_world.specs.ShownChanges.{change_of, changes_of}
use Rattle.grounder.specs.Instances.{assigned_by}
use Rattle.grounder.proofs.Pushing.{grown, at_stage-append}
use Rattle.grounder.proofs.assignments.assigned_at.Goals as goal

pub loop-staged-preserved : goal.loop-staged-preserved
loop-staged-preserved c =
    let f = assigned_by (world_of c.args.tables.now) (env_of c.args.env.now) in
    let s = c.args.stage.now in
    grown (λ cs. flat_map f (parts_at s (changes_of cs))) (λ x. flat_map f (parts_at s (changes_of (x ∷ []))))
    (λ xs x. at_stage-append f (λ y. record { stage = y.stage; part = change_of y.change }) s xs (x ∷ []))
    c.loop-staged.out c.push_assigned_at.new.out c.args.changes.now c.loop-staged.staged-index c.staged-item.result c.loop-staged-test.true c.staged-item.is c.loop-staged.invariant c.in_ok-push_assigned_at.ensures
