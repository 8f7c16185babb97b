use Rattle.std.proofs.Common.{◌≡◌, ◌∙◌, ap, List, ℕ, [], ◌∷◌, ◌++◌, Bool, if◌then◌else◌}
use Rattle.std.proofs.lemmas.List.{take_all}
use Rattle.pddl_names.specs.Declarations.{Text}
use Rattle.pddl_names.specs.Fitting.{fits}
use Rattle.ground_world.specs.Building.{fitting_places}
use Rattle.ground_world.proofs.FittingPlaces.{one_place_more}
use Rattle.ground_world.proofs.columns.fitting_places.Goals as goal

pub loop-place-preserved : goal.loop-place-preserved
loop-place-preserved c =
    one_place_more (λ own. fits c.args.types.now own c.args.sort.now) c.args.sorts.now c.loop-place.place c.index-sorts-place.result c.loop-place.places c.push_where.new.places
    c.loop-place-test.true c.index-sorts-place.is c.loop-place.invariant
    (c.in_ok-push_where.ensures
    ∙ ap (λ (b : Bool). c.loop-place.places ++ (if b then c.loop-place.place ∷ [] else []))
    (c.fits-wanted.ensures ∙ ap (λ (s : Text). fits c.args.types.now s c.args.sort.now) c.as_slice.ensures))

pub returns : goal.returns
returns c =
    c.loop-place.invariant
    ∙ ap (λ (l : List Text). fitting_places c.args.types.now l c.args.sort.now) (take_all c.loop-place.place c.args.sorts.now c.loop-place-test.false)
