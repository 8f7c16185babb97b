use Rattle.std.proofs.Common.{◌≡◌, ◌∙◌, ap, List, ℕ, [], ◌∷◌, ◌++◌, Bool, if◌then◌else◌}
use Rattle.std.proofs.lemmas.List.{take_all}
use Rattle.pddl_names.specs.Declarations.{Text}
use Rattle.pddl_names.specs.Fitting.{is_nothing}
use Rattle.ground_world.specs.Building.{places_passing}
use Rattle.ground_world.proofs.FittingPlaces.{one_place_more}
use Rattle.ground_world.proofs.columns.untyped_places.Goals as goal

pub loop-place-preserved : goal.loop-place-preserved
loop-place-preserved c =
    one_place_more is_nothing c.args.sorts.now c.loop-place.place c.index-sorts-place.result c.loop-place.places c.push_where.new.places
    c.loop-place-test.true c.index-sorts-place.is c.loop-place.invariant
    (c.in_ok-push_where.ensures
    ∙ ap (λ (b : Bool). c.loop-place.places ++ (if b then c.loop-place.place ∷ [] else []))
    (c.is_empty-wanted.ensures ∙ ap is_nothing c.as_slice.ensures))

pub returns : goal.returns
returns c =
    c.loop-place.invariant
    ∙ ap (places_passing is_nothing) (take_all c.loop-place.place c.args.sorts.now c.loop-place-test.false)
