use Rattle.std.proofs.Common.{◌≡◌, ◌∙◌, ap, List, ℕ, [], ◌∷◌, ◌++◌, nat_eq, if◌then◌else◌}
use Rattle.std.specs.List.{list_any}
use Rattle.std.proofs.lemmas.Result.{IfOk-weaker}
use Rattle.pddl_names.specs.Declarations.{Text}
use Rattle.ground_world.specs.World.{place_in}
use Rattle.ground_world.specs.Building.{Marks}
use Rattle.ground_world.proofs.Marking.{marks_more}
use Rattle.ground_world.proofs.changing.mark.Goals as goal

pub returns : goal.returns
returns c =
    let place = c.place_or_len.result in
    let names = c.args.names.now in
    let places = c.args.places.now in
    let name = c.args.atom.now.name.bytes in
    IfOk-weaker c.add.result
    (λ _. c.add.new.self ≡ (if list_any (nat_eq place) places then places else places ++ (place ∷ [])))
    (λ _. (before : List Text) → Marks names places before → Marks names c.add.new.self (before ++ (name ∷ [])))
    (λ _ h. marks_more names places c.add.new.self name place (c.place_or_len.ensures.value ∙ ap (place_in names) c.as_slice.ensures) h)
    c.add.ensures
