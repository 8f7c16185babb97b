use Rattle.std.proofs.Common.{ap, ◌∙◌, [], ◌∷◌}
use Rattle.std.specs.List.{flat_map}
use Rattle.std.proofs.lemmas.List.{map-append}
use Rattle.std.proofs.lemmas.List.Concat.{flat_map-append}
use Rattle.ground_world.specs.Shown.{env_of}
use Rattle.ground_world.specs.ShownBounds.{bounds_of}
use Rattle.grounder.specs.ShownGrounding.{ground_of}
use Rattle.grounder.specs.Building.{bounds_from}
use Rattle.grounder.proofs.Pushing.{grown}
use Rattle.grounder.proofs.bounds.bounds.Goals as goal

pub loop-bound-preserved : goal.loop-bound-preserved
loop-bound-preserved c =
    let f = bounds_from (ground_of c.args.grounding.now) (env_of c.args.env.now) in
    grown (λ bs. flat_map f (bounds_of bs)) (λ b. flat_map f (bounds_of (b ∷ [])))
    (λ xs x. ap (flat_map f) (map-append (λ b. record { at_end = b.at_end; order = b.order; expression = b.expression.now }) xs (x ∷ [])) ∙ flat_map-append f (bounds_of xs) (bounds_of (x ∷ [])))
    c.loop-bound.out c.push_bounds_of.new.out c.args.bounds.now c.loop-bound.bound-index c.bound-item.result c.loop-bound-test.true c.bound-item.is c.loop-bound.invariant c.in_ok-push_bounds_of.ensures
