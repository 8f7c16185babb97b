use Rattle.std.specs.List.{flat_map}
use Rattle.ground_world.specs.FirstState.{unvalued_places}
use Rattle.ground_world.specs.Expressions.{mentioned}
use Rattle.ground_world.specs.Shown.{env_of, world_of}
use Rattle.ground_world.specs.ShownBounds.{bounds_of}
use Rattle.grounder.proofs.Pushing.{pushed}
use Rattle.grounder.proofs.MentionSteps.{in_bounds-more}
use Rattle.grounder.proofs.mentions.push_in_bounds.Goals as goal

pub loop-bound-preserved : goal.loop-bound-preserved
loop-bound-preserved c =
    let w = world_of c.args.tables.now in
    let e = env_of c.args.env.now in
    pushed (λ bs. unvalued_places w (flat_map (λ b. mentioned w e b.expression) (bounds_of bs))) (λ b. unvalued_places w (mentioned w e b.expression.now)) (in_bounds-more w e)
    c.args.out.now c.loop-bound.out c.push_unvalued.new.out c.args.bounds.now c.loop-bound.bound-index c.bound-item.result c.loop-bound-test.true c.bound-item.is c.loop-bound.invariant c.in_ok-push_unvalued.ensures
