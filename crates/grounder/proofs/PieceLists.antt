-- The parts of a binding's conditions without their stages.
use Rattle.std.proofs.Common.{◌≡◌, sym, ap, ◌∙◌, map}
use Rattle.std.specs.List.{flat_map, list_all}
use Rattle.std.proofs.lemmas.List.Folds.{flat_map-map, list_all-map}
use Rattle.ground_world.specs.World.{World}
use Rattle.ground_world.specs.Conditions.{tests_in, static_part_holds}
use Rattle.ground_world.specs.Shown.{part_of, parts_of}
use Rattle.ground_world.specs.ShownParts.{staged_parts_of}
use Rattle.ground_world.specs.declared.staged_parts.StagedParts.{StagedParts}
use Rattle.ground_world.proofs.WithStages.{with_stages-parts}
use Rattle.grounder.specs.Bindings.{tests_among}

without_stages : (x : StagedParts) → map (λ p. p.part) (staged_parts_of x) ≡ parts_of x.parts
without_stages x = with_stages-parts x.parts x.stages x.same_length

pub tests-among : (x : StagedParts) → flat_map tests_in (parts_of x.parts) ≡ tests_among (staged_parts_of x)
tests-among x = sym (ap (flat_map tests_in) (without_stages x)) ∙ flat_map-map tests_in (λ p. p.part) (staged_parts_of x)

pub static-among : (w : World) (x : StagedParts)
    → list_all (λ p. static_part_holds w (part_of p)) x.parts ≡ list_all (λ p. static_part_holds w p.part) (staged_parts_of x)
static-among w x =
    sym (list_all-map (static_part_holds w) part_of x.parts) ∙ sym (ap (list_all (static_part_holds w)) (without_stages x))
    ∙ list_all-map (static_part_holds w) (λ p. p.part) (staged_parts_of x)
