use Rattle.std.specs.List.{flat_map}
use Rattle.ground_world.specs.Shown.{env_of}
use Rattle.ground_world.specs.ShownChanges.{change_of, changes_of}
use Rattle.grounder.specs.ShownGrounding.{ground_of}
use Rattle.grounder.specs.Task.{fluent_rates}
use Rattle.grounder.proofs.Pushing.{grown, flat_map-more}
use Rattle.grounder.proofs.rates.rates.Goals as goal

pub loop-staged-preserved : goal.loop-staged-preserved
loop-staged-preserved c =
    let f = fluent_rates (ground_of c.args.grounding.now) (env_of c.args.env.now) in
    grown (λ cs. flat_map (λ x. f x.part) (changes_of cs)) (λ x. f (change_of x.change))
    (λ xs x. flat_map-more (λ y. f y.part) (λ y. record { stage = y.stage; part = change_of y.change }) xs x)
    c.loop-staged.out c.push_rate.new.out c.args.changes.now c.loop-staged.staged-index c.staged-item.result c.loop-staged-test.true c.staged-item.is c.loop-staged.invariant c.in_ok-push_rate.ensures
