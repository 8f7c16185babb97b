use Rattle.ground_world.specs.Expressions.{reckoned}
use Rattle.ground_world.specs.Shown.{env_of, world_of}
use Rattle.ground_world.specs.ShownBounds.{bounds_of}
use Rattle.grounder.specs.Instances.{no_unknowns}
use Rattle.grounder.specs.Bindings.{bound_flaws}
use Rattle.grounder.proofs.Pushing.{pushed}
use Rattle.grounder.proofs.Flawed.{of_bounds-more}
use Rattle.grounder.proofs.binding_flaws.push_of_bounds.Goals as goal

pub loop-bound-preserved : goal.loop-bound-preserved
loop-bound-preserved c =
    let w = world_of c.args.tables.now in
    let e = env_of c.args.env.now in
    pushed (λ bs. bound_flaws w e (bounds_of bs)) (λ b. (reckoned w no_unknowns e b.expression.now).flaws) (of_bounds-more w e)
    c.args.flaws.now c.loop-bound.flaws c.push_of_tree.new.flaws c.args.bounds.now c.loop-bound.bound-index c.bound-item.result c.loop-bound-test.true c.bound-item.is c.loop-bound.invariant c.in_ok-push_of_tree.ensures
